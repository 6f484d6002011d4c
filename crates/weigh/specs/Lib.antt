-- The definitions that the contracts of `weigh` cite. Document 01, the first half of "Choosing".
-- To be believed: Weighing, the answer for any bytes and any block, with 01's numbers. It computes with Tests of `network`, which are proved
-- equal to 01's words there.
pub mod Weighing
-- Serves the contracts of inner functions alone, and nothing in it is promised: sums over the endpoints by rows of marks.
pub mod Sums
