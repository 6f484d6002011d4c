-- Laws of pricing: which number is told; a flat network by chains; sums over records; what the functions within pricing make, and that it is what
-- chains say.
pub mod Judged
pub mod Flat
pub mod Sums
pub mod Records
pub mod Reaching
pub mod Locations
pub mod Telling
pub mod Endpoints
pub mod Adding
pub mod Feeding
pub mod Pricing
pub mod Answering
pub mod Repeats
