-- What serves inner contracts alone: nothing here is promised, and no promised definition of the crates above rests on it.
pub mod Rows
pub mod Ranges
