-- `sweep_frontier` sweeps the rows of a frontier: the rows of the words passed are swept. Assumes nothing.
use Rattle.graph.proofs.Frontiers.{RowSweeping}
use Rattle.graph.proofs.Walker.sweep_frontier.Given as goal

abbrev pub invariant-loop-i : goal.invariant-loop-i
invariant-loop-i l = RowSweeping l.level l.links l.frontier l.i l.initial.self l.self
