-- Laws of marks in words and rows.
pub mod Digits
pub mod Lowest
pub mod Parts
pub mod InWords
pub mod Marks
pub mod Ranges
