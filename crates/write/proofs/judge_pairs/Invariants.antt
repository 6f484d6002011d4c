-- `judge_pairs` finds the first pair that is not let pass. Assumes nothing.
use mathlib.Core.Path.{◌≡◌}
use mathlib.Core.List.{[], map}
use Prim.Native.Nat.{ℕ}
use lib.ListN.{length}
use Rattle.picture.specs.declared.Link.{Link}
use Rattle.picture.specs.Refusals.{fault_of}
use Rattle.picture.proofs.Finding.{Scanning}
use Rattle.write.specs.Columns.{link_from}
use Rattle.write.proofs.judge_pairs.Given as goal

-- whatever number the judgement tells of a link
abbrev pub invariant-loop-pair : goal.invariant-loop-pair
invariant-loop-pair g l =
    (fault : Link → ℕ) → ((x : Link) (r : _) → goal.F-post g l.judge x r → fault_of r ≡ fault x)
    → Scanning fault (link_from []) (map link_from l.pairs) (length l.pairs) l.pair-index
