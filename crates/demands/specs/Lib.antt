-- To be believed: the owner's third demand, with what 02, C-12, adds to it; document 01's sentence on repeated links; and what lists of calls
-- keep (02, C-15 and C-19); over the words of `network` and the definitions that the calls' contracts cite.
pub mod Demands
pub mod Repeats
pub mod Calls
