-- The laws that the proofs of `listing` cite.
pub mod Texts
pub mod Decimals
pub mod Lines
pub mod ByEvidence
pub mod Long
pub mod Repeats
