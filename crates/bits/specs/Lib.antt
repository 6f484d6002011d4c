-- The definitions that the contracts of `bits` cite.

-- To be believed: document 01's fields, of any width at any bit, as they are read and as they are written
pub mod Bits
-- Serves inner contracts alone: fields that are written one behind the other, where the last bits stand in no byte yet
pub mod Pushing
