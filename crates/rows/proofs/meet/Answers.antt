-- `meet` looks for a mark that two rows have in common. Assumes nothing.
use Rattle.std.proofs.Common.{arith, rules}
use Rattle.rows.proofs.Marks.{looked_next, looked_ended}
use Rattle.rows.proofs.meet.Goals as goal
use Rattle.rows.proofs.meet.Goals.{else-loop-i-test, then-loop-i-test+then-is_end}

pub loop-i-preserved : goal.loop-i-preserved
loop-i-preserved c = looked_next c.loop-i.invariant

pub returns : goal.returns
returns c =
    looked_ended c.loop-i.invariant (λ j. search rules) c.requires
    (elim c.loop-i-test.branch [ else-loop-i-test w ↦ omega (arith, c.requires.most) | then-loop-i-test+then-is_end w ↦ w.is_end.ensures w.if-is_end.true ])
