-- `meet_unevicted` looks for a common mark outside a range: all words were looked at. Assumes nothing.
use Rattle.checker.proofs.Outside.{apart_ended}
use Rattle.checker.proofs.forests.meet_unevicted.Goals as goal

pub returns : goal.returns
returns c = apart_ended _ _ _ _ c.loop-i.invariant c.requires.1 c.loop-i-test.false
