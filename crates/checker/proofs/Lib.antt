-- The laws of the check.
pub mod Nodes
pub mod Forms
pub mod Verdicts
pub mod Outside
pub mod Following
pub mod Parts
pub mod Going
pub mod Answering
pub mod Showing
