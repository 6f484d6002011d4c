-- `judge_service_links` finds the first service link that names what is not there. Assumes nothing.
use Rattle.picture.specs.Picture.{picture_with}
use Rattle.picture.specs.Faults.{service_link_fault}
use Rattle.picture.specs.Rules.{no_link}
use Rattle.picture.proofs.Finding.{Scanning}
use Rattle.picture.proofs.judge_service_links.Given as goal

abbrev pub invariant-loop-i : goal.invariant-loop-i
invariant-loop-i g l = Scanning (service_link_fault l.h.slots l.h.endpoints) no_link (picture_with l.h l.s).service_links l.h.service_links l.i
