-- `sweep_at` sweeps one word of a row. Assumes nothing.
use Rattle.graph.proofs.Takes.{new_locations, word_passed}
use Rattle.graph.proofs.Forest.sweep_at.Goals as goal

pub returns-then-found-eq0 : goal.returns-then-found-eq0
returns-then-found-eq0 c = word_passed c.args.word c.args.fresh c.requires.1 c.leave_out-found.ensures c.if-found-eq0.true

pub enter-requires-clause-locations : goal.enter-requires-clause-locations
enter-requires-clause-locations c = new_locations c.args.word c.args.fresh c.leave_out-found.ensures c.requires.0
