-- `judge_links` finds the first link that names what is not there. Assumes nothing.
use Rattle.picture.specs.Picture.{picture_with}
use Rattle.picture.specs.Faults.{link_fault}
use Rattle.picture.specs.Rules.{no_link}
use Rattle.picture.proofs.Finding.{Scanning}
use Rattle.picture.proofs.judge_links.Given as goal

abbrev pub invariant-loop-i : goal.invariant-loop-i
invariant-loop-i g l = Scanning (link_fault l.h.slots) no_link (picture_with l.h l.s).links l.h.links l.i
