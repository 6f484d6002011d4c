-- Writing pictures: document 02, C-11.

-- To be believed: the lists as they are handed over, and the picture that they make; its fields and bytes; the rules that the lists keep;
-- what writing answers and leaves in the buffer; and what writing and reading are to each other
pub mod Columns
pub mod Fields
pub mod Rules
pub mod Answers
pub mod Trips
-- Computes: the number of the first fault of any lists. `write_judged` of proofs/Judged.antt shows that it is the number of the first rule
-- that is broken, or 0 where all of them hold
pub mod Faults
-- Serve inner contracts alone: what follows what is written, and what the functions that write ask
pub mod Tails
pub mod Inner
