-- A picture's network.
-- To be believed, as what document 01's words mean: Words, by chains, and Repeats, for the sentence on repeated links.
pub mod Words
pub mod Repeats
-- Computes the same: the code is held to Tests, and Service, Weights and Candidates of the proofs show each test equal to its word.
pub mod Tests
-- Serves the contracts of inner functions alone, and nothing in it is promised: the network as rows of marks.
pub mod Rows
