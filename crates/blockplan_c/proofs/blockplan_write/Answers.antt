-- A picture that `blockplan_write` writes has a length of 31 bits. Assumes nothing.
use native.Mathlib.Omega.{arith}
use Rattle.write.proofs.Judging.{size_most}
use Rattle.write.proofs.Answering.{fills_most}
use Rattle.blockplan_c.proofs.blockplan_write.Goals as goal

pub number-requires : goal.number-requires
number-requires c = λ n e. omega (arith, fills_most c.write.ensures (size_most _ _) n e)
