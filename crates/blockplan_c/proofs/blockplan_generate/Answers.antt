-- A picture that `blockplan_generate` fills has a length of 31 bits. Assumes nothing.
use native.Mathlib.Omega.{arith}
use Rattle.generator.proofs.Reading.{size_most}
use Rattle.write.proofs.Answering.{fills_most}
use Rattle.blockplan_c.proofs.blockplan_generate.Goals as goal

pub number-requires : goal.number-requires
number-requires c = λ n e. omega (arith, fills_most c.generate.ensures (size_most _ _ _ _ _ _) n e)
