-- The proofs of the owner's third demand, of document 01's sentence on repeated links, and of 02, C-15 and C-19; and that each answer tells
-- the number of the first fault.
pub mod Third
pub mod Repeated
pub mod Calls
pub mod Numbers
