-- `push_rows` fills rows with draws, one row at a time. Assumes nothing.
use native.Mathlib.Omega.{arith}
use Rattle.generator.proofs.Rows.{filling_begun, filling_next, filling_ended}
use Rattle.generator.proofs.push_rows.Goals as goal

pub loop-init : goal.loop-init
loop-init c = filling_begun (omega arith)

pub loop-preserved : goal.loop-preserved
loop-preserved c = filling_next c.loop.invariant c.loop-test.true c.push_row-progress.ensures

pub returns : goal.returns
returns c = filling_ended c.loop.invariant (omega arith) (omega arith)
