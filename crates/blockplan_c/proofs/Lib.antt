-- Laws of the numbers that the calls for C answer.
pub mod Numbers
pub mod Lengths
pub mod Prices
