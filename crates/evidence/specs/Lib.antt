-- Evidence: document 01, "Choosing" (second half) and "Checking and evicting"; 02, C-12, for ties.

-- To be believed: its layout and what its bytes say; the order of choice and the evidence of a picture, which is computed with the tests of
-- `network` and `graph` that are proved equal to 01's words there; the rules that evidence keeps; and what the calls do with their buffers
pub mod Layout
pub mod Contents
pub mod Canonical
pub mod Rules
pub mod Calls
-- Computes: the number of the first fault of evidence from anywhere. `check_judged` of proofs/Judged.antt shows that it is the number of the
-- first rule that is broken, or 0 where all of them hold
pub mod Checks
-- Serves one function that no call goes through: a choice of any numbers. `bettered_same` of proofs/Choices.antt shows that of the numbers of a
-- choice it is `bettered`
pub mod Choices
