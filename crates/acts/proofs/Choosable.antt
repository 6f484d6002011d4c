-- What choose may name, evict takes: evicting an admissible candidate is done. Assumes nothing.
use mathlib.Core.Path.{◌≡◌}
use mathlib.Core.List.{List}
use Prim.Native.Nat.{ℕ}
use native.Mathlib.Omega.{arith}
use lib.Dec.{eqb→eq}
use Rattle.picture.specs.Picture.{Picture, picture_of, slot_of}
use Rattle.picture.specs.Faults.{picture_fault}
use Rattle.network.specs.Words.{Candidate, Admissible}
use Rattle.network.proofs.Candidates.{held_state, near_slot, candidate_below}
use Rattle.acts.specs.declared.Act.TheVariants.{Evict}
use Rattle.acts.specs.Faults.{act_fault}
use Rattle.acts.specs.Acts.{after}
use Rattle.acts.specs.Rules.{Changes}
use Rattle.acts.proofs.Judged.{doable_done}

-- a candidate has a held slot, so evicting it changes something
pub evict_changes : {p : Picture} {b : ℕ} → Candidate p b → Changes Evict p b
unfolding after
evict_changes {p} {b} c =
    let v = c.slot in
    let empty : (slot_of p v).state ≡ 0 = eqb→eq _ _ (rw (held_state p v (near_slot p v c.near).0) c.held) in
    record { slot = v; inside = c.inside; other = rw empty (λ e. absurd (omega arith)) }

pub evict_candidate : (bs : List ℕ) (b : ℕ) → picture_fault bs ≡ 0 → Candidate (picture_of bs) b → Admissible (picture_of bs) b → act_fault Evict bs b ≡ 0
evict_candidate bs b ok c s = doable_done Evict bs b (record { accepted = ok; there = candidate_below bs ok b c; changes = evict_changes c; spares = s; leaves = tt })
