-- Rows of fields, filled by one draw after the other. Assumes nothing.
use mathlib.Core.Path.{◌≡◌, ap, ◌∙◌}
use mathlib.Core.List.{List, []}
use Prim.Native.Nat.{ℕ, ◌+◌, ◌*◌, ◌^◌, ◌≤◌, ◌<◌}
use native.Mathlib.Omega.{arith}
use native.Mathlib.Nat.{zero-add, mod-lt}
use lib.ListN.{take}
use Rattle.lists.specs.Lists.{flat}
use Rattle.packing.specs.Packing.{Field, fields_of}
use Rattle.packing.specs.Holding.{span}
use Rattle.write.specs.Tails.{Follows}
use Rattle.write.proofs.Tails.{rows_begun, rows_next, rows_ended}
use Rattle.draws.specs.Draws.{state_after, draw}
use Rattle.draws.proofs.States.{state_begun, state_later, draw_later}
use Rattle.generator.specs.declared.DrawnField.{DrawnField}
use Rattle.generator.specs.declared.Progress.{Progress}
use Rattle.generator.specs.Generated.{drawn_rows}
use Rattle.generator.specs.Inner.{taken, row_fields, Roomy, RowDrawn, RowsDrawn}
use Rattle.generator.proofs.Lists.{length_drawn, drawn_at}

-- ---- what a field takes

pub taken_small : {f : DrawnField} → Roomy f → (x : ℕ) → taken f x < 2 ^ f.bits
unfolding taken
taken_small {f} r x = omega (arith, mod-lt x r.some, r.most)

-- ---- rows

pub row_width : (a b : DrawnField) (x y : ℕ) → span (row_fields a b x y) ≡ a.bits + b.bits
unfolding span row_fields fields_of
row_width a b x y = omega arith

-- the first i of the rows that draws fill from a state on, and the state that they leave
pub record Filling (p : Progress) (a b : DrawnField) (count : ℕ) (old : List ℕ) (i : ℕ) (new : List ℕ) (r : Progress) : Type 0 where
  pub place : r.tail.at ≡ p.tail.at + i * (a.bits + b.bits)
  pub state : r.state ≡ state_after p.state (i * 2)
  pub rows : Follows old p.tail (flat (take i (drawn_rows (row_fields a b) p.state 0 count))) new r.tail

-- those rows
abbrev rows_from : Progress → DrawnField → DrawnField → ℕ → List (List Field)
rows_from p a b count = drawn_rows (row_fields a b) p.state 0 count

module _ {p : Progress} {a b : DrawnField} {count : ℕ} {old : List ℕ} where
  pub filling_begun : p.state < 2 ^ 64 → Filling p a b count old 0 old p
  filling_begun l = record { place = omega arith; state = state_begun p.state l; rows = rows_begun old p.tail (rows_from p a b count) }

  -- two draws more, and a row
  pub filling_next : {i : ℕ} {mid new : List ℕ} {r s : Progress} → Filling p a b count old i mid r → i < count
      → RowDrawn r a b mid new s → Filling p a b count old (i + 1) new s
  filling_next {i} {r = r} f l d =
      let later : (n : ℕ) → draw r.state n ≡ draw p.state (0 + i * 2 + n) = λ n. rw (f.state, draw_later p.state (i * 2) n, zero-add (i * 2)) in
      let here = drawn_at (row_fields a b) p.state 0 count [] i l in
      record {
        place = omega (arith, f.place, d.follows.end, row_width a b (draw r.state 1) (draw r.state 2));
        state = d.state ∙ rw (f.state, state_later p.state (i * 2) 2) (ap (state_after p.state) (omega arith));
        rows = rows_next (rows_from p a b count) f.rows (rw length_drawn l) (rw (here, later 1, later 2)) d.follows;
      }

  pub filling_ended : {i : ℕ} {new : List ℕ} {r : Progress} → Filling p a b count old i new r → count ≤ i → i ≤ count
      → RowsDrawn p a b count old new r
  filling_ended {i} f l m =
      let all : i ≡ count = omega arith in
      record { state = rw all at f.state; follows = rows_ended (rows_from p a b count) f.rows (rw length_drawn l) }
