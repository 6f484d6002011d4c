-- The definitions that the contracts of `picture` cite. Document 01, "The picture"; 02, C-14, for what a service link names, and
-- C-18 for the largest block.

-- To be believed: what 01 says of a picture. The widths of its fields, its parts and its limits; what its bytes say; the rules that it
-- keeps, with the number of each; refusals and answers with 01's numbers, for every call; what reading answers; and what a raised limit of β
-- changes
pub mod Layout
pub mod Picture
pub mod Rules
pub mod Refusals
pub mod Answers
pub mod Raised
-- Computes: the number of the first fault of any bytes. `picture_judged` of proofs/Accepted.antt shows that it is the number of the first rule that
-- is broken, or 0 where all of them hold
pub mod Faults
-- Serves inner contracts alone: nothing in it is promised
pub mod Inner
