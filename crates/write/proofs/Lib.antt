-- Laws of writing pictures.
pub mod Right
pub mod Fields
pub mod Judged
pub mod Reading
pub mod Trips
pub mod Tails
pub mod Rows
pub mod Judging
pub mod Making
pub mod Putting
pub mod Answering
