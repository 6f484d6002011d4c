-- `enter` gives the slots of a word their entries. Assumes nothing.
use Rattle.graph.proofs.Entries.{begun, hit, ended}
use Rattle.graph.proofs.Forest.enter.Goals as goal

pub loop-w-init : goal.loop-w-init
loop-w-init c = begun c.ranges.word.fits c.requires.whole

pub loop-w-preserved : goal.loop-w-preserved
loop-w-preserved c = hit c.loop-w.invariant c.requires.locations c.loop-w-test.true

pub returns : goal.returns
returns c = ended c.loop-w.invariant c.loop-w-test.false
