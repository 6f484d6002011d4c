-- The definitions that the contracts of `graph` cite.

-- To be believed: chains, what they reach and the forest of fewest links; and the rules that a forest from anywhere has to keep
pub mod Chains
pub mod Kept
-- Computes: what is reached and the forest, round by round. `marked_reached` and `reached_marked` of proofs/Settling.antt and
-- `forest_entry` of proofs/Nodes.antt show that they are those of the chains
pub mod Rounds
-- Serve inner contracts alone: held locations as a row marks them, what the steps of the walk do, and what the walk gives
pub mod Held
pub mod Sweeps
pub mod Steps
