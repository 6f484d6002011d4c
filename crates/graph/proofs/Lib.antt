-- The laws that the proofs of `graph` share.
pub mod Search
pub mod Pigeons
pub mod Chains
pub mod Forests
pub mod Held
pub mod Avoiding
pub mod Levels
pub mod Entries
pub mod Sweeps
pub mod Takes
pub mod Frontiers
pub mod Walks
pub mod Marking
pub mod Settling
pub mod Nodes
pub mod Keeping
