-- `implied` goes over the sections in the order of choice. Assumes nothing.
use Rattle.std.proofs.Common.{◌≡◌, take}
use Rattle.evidence.specs.Canonical.{least}
use Rattle.checker.proofs.verdict.Sections.implied.Given as goal

abbrev pub invariant-loop-i : goal.invariant-loop-i
invariant-loop-i l = l.best ≡ least (take l.i l.self)
