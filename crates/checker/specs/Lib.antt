-- Checking and showing.

-- To be believed: the answer, with 01's numbers, and where the part lies that show hands back, over the definitions of `evidence`
pub mod Answers
-- Serve inner contracts alone: the form of evidence, its verdict and its forests, by what the code has read
pub mod Form
pub mod Verdict
pub mod Forests
