-- Laws of evidence: its tests say what its rules say, a picture's own evidence passes, and every evidence that passes has one verdict.
pub mod Least
pub mod Choices
pub mod Weighings
pub mod Places
pub mod Fields
pub mod Lengths
pub mod Held
pub mod Written
pub mod Forests
pub mod Choosing
pub mod Judging
pub mod Judged
pub mod Passing
pub mod Unique
pub mod Canonical
pub mod Showing
pub mod Repeats
