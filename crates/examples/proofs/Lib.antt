-- The theorem over the rows of the table.
pub mod Rows
