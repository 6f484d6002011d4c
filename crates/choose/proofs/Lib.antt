-- Laws of choosing.
pub mod Nodes
pub mod Sections
pub mod Gathering
pub mod Evidence
pub mod Answering
