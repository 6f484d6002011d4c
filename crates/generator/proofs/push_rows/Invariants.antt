-- `push_rows` fills rows with draws, one row at a time. Assumes nothing.
use Rattle.generator.proofs.Rows.{Filling}
use Rattle.generator.proofs.push_rows.Given as goal

abbrev pub invariant-loop : goal.invariant-loop
invariant-loop l = Filling l.fn.from l.first l.second l.count l.initial.buf l.counter l.buf l.progress
