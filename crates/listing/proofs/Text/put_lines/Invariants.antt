-- `put_lines` puts the served weight, section by section, and the choice. Assumes nothing.
use Rattle.listing.proofs.Lines.{Telling}
use Rattle.listing.proofs.Text.put_lines.Given as goal

abbrev pub invariant-loop-i : goal.invariant-loop-i
invariant-loop-i l = Telling l.h.edition l.h.slots l.ev l.initial.self l.self l.i
