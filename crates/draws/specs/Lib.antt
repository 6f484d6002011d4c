-- Draws from a seed: document 02, C-13.

-- To be believed: the state after so many draws, and each draw
pub mod Draws
