-- `sweep_row` sweeps one row: the marks of the words passed are swept. Assumes nothing.
use Rattle.graph.proofs.Takes.{Sweeping}
use Rattle.graph.proofs.Walker.sweep_row.Given as goal

abbrev pub invariant-loop-k : goal.invariant-loop-k
invariant-loop-k l = Sweeping l.level l.row l.u l.k l.initial.self l.self
