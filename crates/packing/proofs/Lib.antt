-- The laws of packed fields, each shown once for every list of fields.
pub mod Fields
pub mod Packed
pub mod Written
pub mod Putting
