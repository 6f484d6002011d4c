-- `meet` looks for a mark that two rows have in common: i words are looked at. Assumes nothing.
use Rattle.rows.proofs.Marks.{Looked}
use Rattle.rows.proofs.meet.Given as goal

abbrev pub invariant-loop-i : goal.invariant-loop-i
invariant-loop-i l = Looked l.row l.other l.common l.i
