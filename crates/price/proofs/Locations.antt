-- What a service link from each location tells, by the row of the reached slots. Assumes nothing.
use mathlib.Core.Path.{◌≡◌, refl, ◌∙◌}
use mathlib.Core.Bool.{true, false, cond}
use mathlib.Core.List.{List}
use Prim.Native.Nat.{ℕ, zero, suc, ◌-◌, ◌/◌, ◌<◌}
use native.Mathlib.Omega.{arith}
use borrow.Author.Tests.{lt-ltb}
use lib.Dec.{eqb-suc-zero}
use lib.ListN.{get_or, set, length-set}
use lib.Seq.{get_or-set_same, get_or-set_other}
use Rattle.lists.proofs.Storing.{Stored}
use Rattle.rows.specs.Rows.{marked, locations_max}
use Rattle.picture.specs.Picture.{Picture}
use Rattle.network.specs.Words.{slot_count}
use Rattle.network.proofs.Slots.{held_past}
use Rattle.price.specs.Inner.{ReachedRow, no_feeder, not_one, told, LocationsTell}

-- what is told at a slot
pub by_row : List ℕ → ℕ → ℕ → ℕ
by_row row size v = cond (marked row v) ((v - 1) / size) no_feeder

module _ (row : List ℕ) (size v : ℕ) where
  pub row_hit : marked row v ≡ true → (v - 1) / size ≡ by_row row size v
  unfolding by_row
  row_hit e = rw e refl

  pub row_miss : marked row v ≡ false → by_row row size v ≡ no_feeder
  unfolding by_row
  row_miss e = rw e refl

module _ {p : Picture} {row : List ℕ} (r : ReachedRow p row) where
  -- past the slots nothing is reached
  pub row_past : (v : ℕ) → slot_count p < v → marked row v ≡ false
  unfolding slot_count
  row_past v l = r.marks v ∙ simp (held_past p v l, lt-ltb 0 v (omega arith)) refl

  -- the slots are told, and then the origin
  pub locations_told : {size : ℕ} {feeders : List ℕ} → p.block_size ≡ size → Stored locations_max no_feeder (by_row row size) feeders 0 → LocationsTell p (set feeders 0 not_one)
  unfolding told by_row
  locations_told {size} {feeders} e f = record { many = length-set feeders 0 not_one ∙ f.many; same = same }
    where
      same : (v : ℕ) → get_or (set feeders 0 not_one) v no_feeder ≡ told p v
      same zero = get_or-set_same feeders 0 not_one no_feeder (omega (arith, f.many))
      same (suc i) =
          get_or-set_other feeders 0 (suc i) not_one no_feeder (λ q. absurd (omega arith)) ∙ f.seen (suc i) (omega arith)
          ∙ rw (r.marks (suc i), lt-ltb 0 (suc i) (omega arith), eqb-suc-zero i, e) refl
