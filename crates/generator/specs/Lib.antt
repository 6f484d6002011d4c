-- Pictures from a seed: document 02, C-13.

-- To be believed: the header that is asked for, and the picture that draws fill; the rules of what is asked for; what generating
-- answers and leaves in the buffer, and how it reads
pub mod Generated
pub mod Rules
pub mod Answers
-- Computes: the number of the first fault of what is asked for. `generate_judged` of proofs/Judged.antt shows that it is the number of the
-- first rule that is broken, or 0 where all of them hold
pub mod Faults
-- Serves inner contracts alone: what the functions that draw and write ask
pub mod Inner
