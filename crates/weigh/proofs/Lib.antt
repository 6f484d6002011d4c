-- Laws of weighing.
pub mod Picking
pub mod Serving
pub mod Answering
