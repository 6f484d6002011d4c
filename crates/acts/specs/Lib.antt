-- The acts: document 01, "Checking and evicting".

-- To be believed: what each act makes of a state and of a picture; the rules by which an act is judged; and what it answers, with 01's
-- numbers, and leaves
pub mod Acts
pub mod Rules
pub mod Answers
-- Computes: the number of the first fault. `act_judged` of proofs/Judged.antt shows that it is the number of the first rule that is broken, or 0
-- where all of them hold
pub mod Faults
