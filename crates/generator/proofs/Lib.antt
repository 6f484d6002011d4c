-- Laws of generating pictures.
pub mod Rows
pub mod Judged
pub mod Lists
pub mod Parts
pub mod Reading
