-- What the specifications of the layers above are written with. All of it is to be believed: what is promised and what computes are
-- both written with it.

-- ranges, sums, tests and searches of lists, each of a few lines
pub mod Lists
-- rules that are judged in order
pub mod Rules
-- a sum over the places at which something holds, each once
pub mod Totals
