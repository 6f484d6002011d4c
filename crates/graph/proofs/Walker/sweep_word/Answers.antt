-- `sweep_word` sweeps the rows of a word's locations. Assumes nothing.
use Rattle.graph.proofs.Frontiers.{word_sweep_begun, word_sweep_next, word_sweep_ended}
use Rattle.graph.proofs.Walker.sweep_word.Goals as goal

pub loop-w-init : goal.loop-w-init
loop-w-init c = word_sweep_begun c.ranges.word.fits c.requires.ready

pub loop-w-preserved : goal.loop-w-preserved
loop-w-preserved c = word_sweep_next c.loop-w.invariant c.loop-w-test.true c.sweep_row.ensures

pub returns : goal.returns
returns c = word_sweep_ended c.loop-w.invariant c.loop-w-test.false
