-- Laws of the picture's layout.
pub mod Editions
pub mod Starts
pub mod Fields
pub mod Finding
pub mod Refusing
pub mod States
pub mod Judging
pub mod Kept
pub mod Accepted
pub mod Answering
pub mod Raised
pub mod Facts
pub mod Fronts
pub mod Long
