-- The laws of bit fields, each shown once for a general width.
pub mod Masks
pub mod Reading
pub mod Writing
pub mod Pushing
