-- Laws of a picture's network: tests say what chains say, and rows of marks are as the loops make them.
pub mod Named
pub mod Blocks
pub mod Service
pub mod Weights
pub mod Repeats
pub mod Candidates
pub mod Evicting
pub mod Making
pub mod Slots
pub mod Ends
