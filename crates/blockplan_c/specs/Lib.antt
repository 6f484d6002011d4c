-- To be believed: what the calls for C answer.
pub mod Answers
