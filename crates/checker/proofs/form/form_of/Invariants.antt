-- `form_of` goes over the blocks and finds the candidates. Assumes nothing.
use Rattle.checker.proofs.Forms.{Forming}
use Rattle.checker.proofs.form.form_of.Given as goal

abbrev pub invariant-loop-b : goal.invariant-loop-b
invariant-loop-b l = Forming l.h.edition l.h.slots l.ev l.near l.size l.count l.b
