-- `sweep_frontier` sweeps the rows of a frontier. Assumes nothing.
use Rattle.graph.proofs.Frontiers.{row_locations, row_sweep_begun, row_sweep_next, row_sweep_ended}
use Rattle.graph.proofs.Walker.sweep_frontier.Goals as goal

pub loop-i-init : goal.loop-i-init
loop-i-init c = row_sweep_begun c.requires.ready

pub sweep_word-requires-clause-locations : goal.sweep_word-requires-clause-locations
sweep_word-requires-clause-locations c = row_locations c.args.frontier c.loop-i.i c.requires.locations.0

pub loop-i-preserved : goal.loop-i-preserved
loop-i-preserved c = row_sweep_next c.loop-i.invariant c.sweep_word.ensures

pub returns : goal.returns
returns c = row_sweep_ended c.loop-i.invariant c.requires.locations.1 c.loop-i-test.false
