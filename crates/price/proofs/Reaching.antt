-- The row of the reached slots of a flat network, link by link. Assumes nothing.
use mathlib.Core.Path.{◌≡◌, refl, sym, ap₂, ◌∙◌}
use mathlib.Core.Bool.{true, false, ◌&&◌, ◌||◌, and-false, or-false, or-true, and_assoc}
use mathlib.Core.List.{List}
use Prim.Native.Nat.{ℕ, zero, suc, ◌+◌, ◌≤◌, ◌<◌}
use native.Mathlib.Omega.{arith}
use native.Mathlib.Decide.{ℕ_discrete}
use native.Mathlib.Nat.{not-suc-le-zero}
use borrow.Author.Tests.{eq-eqb, ne_eqb, lt-ltb}
use lib.Dec.{eqb, ltb, eqb-suc-zero}
use lib.ListN.{length, get_or, take, replicate}
use Rattle.lists.specs.Lists.{any}
use Rattle.lists.proofs.Tests.{is_false}
use Rattle.lists.proofs.Prefixes.{any_take_none, any_take_more, any_take_all}
use Rattle.rows.specs.Rows.{marked, With, row_words}
use Rattle.rows.proofs.Marks.{clear_row}
use Rattle.graph.specs.Held.{held_in}
use Rattle.picture.specs.declared.Link.{Link}
use Rattle.picture.specs.Picture.{Picture}
use Rattle.picture.specs.Rules.{no_link}
use Rattle.network.specs.Words.{is_held, joins}
use Rattle.network.specs.Rows.{SlotRowsOf}
use Rattle.network.proofs.Making.{leads}
use Rattle.price.specs.Inner.{ReachedRow}

-- of the marks of a row, those are marked to which one of the first i links leads from the origin
pub record Reaching (holding : List ℕ) (ls : List Link) (reached : List ℕ) (i : ℕ) : Type 0 where
  pub marks : (v : ℕ) → marked reached v ≡ (marked holding v && any (leads 0 v) (take i ls))

module _ (holding : List ℕ) (ls : List Link) where
  pub reaching_begun : Reaching holding ls (replicate row_words 0) 0
  reaching_begun = record { marks = λ v. clear_row row_words v ∙ sym (simp (any_take_none no_link (leads 0 v) ls, and-false) refl) }

  module _ (row : List ℕ) (i : ℕ) (r : Reaching holding ls row i) (h : i < length ls) (start : (get_or ls i no_link).from ≡ 0) where
    abbrev pub to : ℕ
    to = (get_or ls i no_link).to

    -- one link more leads to this slot, and to no other
    more : (v : ℕ) → any (leads 0 v) (take (i + 1) ls) ≡ (any (leads 0 v) (take i ls) || eqb to v)
    more v = any_take_more no_link (leads 0 v) ls i h ∙ rw (eq-eqb (get_or ls i no_link).from 0 start) refl

    -- which is held, or not
    pub reaching_hit : {row' : List ℕ} → marked holding to ≡ true → With row to row' → Reaching holding ls row' (i + 1)
    reaching_hit {row'} e w = record { marks = λ v. w.marks v ∙ go v (ℕ_discrete v to) }
      where
        go : (v : ℕ) → Dec (v ≡ to) → (marked row v || eqb v to) ≡ (marked holding v && any (leads 0 v) (take (i + 1) ls))
        go v (yes q) = rw (more v, eq-eqb v to q, eq-eqb to v (sym q), q, e) (or-true (marked row to) ∙ sym (or-true (any (leads 0 to) (take i ls))))
        go v (no n) = rw (more v, ne_eqb v to n, ne_eqb to v (λ q. n (sym q)), or-false, or-false) (r.marks v)

    pub reaching_miss : marked holding to ≡ false → Reaching holding ls row (i + 1)
    reaching_miss e = record { marks = λ v. r.marks v ∙ go v (ℕ_discrete v to) }
      where
        go : (v : ℕ) → Dec (v ≡ to) → (marked holding v && any (leads 0 v) (take i ls)) ≡ (marked holding v && any (leads 0 v) (take (i + 1) ls))
        go v (yes q) = rw (q, e) refl
        go v (no n) = rw (more v, ne_eqb to v (λ q. n (sym q)), or-false) refl

-- every link was looked at
pub reaching_ended : {p : Picture} {holding near row : List ℕ} {i : ℕ} → SlotRowsOf p holding near → Reaching holding p.links row i → length p.links ≤ i → ReachedRow p row
unfolding joins held_in
reaching_ended {p} {holding} {near} {row} {i} s r h = record { marks = λ v. r.marks v ∙ ap₂ ◌&&◌ (held v) (any_take_all no_link (leads 0 v) p.links i h) ∙ go v }
  where
    held : (v : ℕ) → marked holding v ≡ (ltb 0 v && is_held p v)
    held zero = is_false (marked holding 0) (λ t. not-suc-le-zero (s.held.only.above 0 t))
    held (suc i) = rw (lt-ltb 0 (suc i) (omega arith)) (rw (eqb-suc-zero i) at (s.held.same (suc i)))

    go : (v : ℕ) → ((ltb 0 v && is_held p v) && any (leads 0 v) p.links) ≡ (ltb 0 v && (is_held p v && any (leads 0 v) p.links))
    go v = and_assoc (ltb 0 v) (is_held p v) (any (leads 0 v) p.links)
