-- Choosing.

-- To be believed: the answer, with 01's numbers, over the definitions of `evidence`
pub mod Answers
-- Serve inner contracts alone: fields written from arrays, what is planned, and the sections by the rows of a picture
pub mod Writing
pub mod Sections
