-- Pricing blocks from traffic: 02, C-16.

-- To be believed: what records say, and what an endpoint weighs by them; feeders, and what the counters are, by chains; the rules by which a
-- call is judged; and what it answers, with 01's numbers
pub mod Traffic
pub mod Feeders
pub mod Rules
pub mod Answers
-- Computes: the number of the first fault. `price_judged` of proofs/Judged.antt shows that it is the number of the first rule that is broken, or 0
-- where all of them hold
pub mod Faults
-- Serves the contracts of inner functions alone, and nothing in it is promised: what the service links tell of each endpoint
pub mod Inner
