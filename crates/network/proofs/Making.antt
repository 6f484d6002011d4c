-- Rows of marks as the loops make them, mark by mark. Assumes nothing.
use mathlib.Core.Path.{◌≡◌, sym, ap, ap₂, ◌∙◌}
use mathlib.Core.Bool.{Bool, true, false, ◌&&◌, ◌||◌, and-true, and-false, or-false, and_comm}
use mathlib.Core.Logic.{by_cases}
use mathlib.Core.List.{List, []}
use Prim.Native.Nat.{ℕ, ◌+◌, ◌-◌, ◌≤◌, ◌<◌}
use native.Mathlib.Omega.{arith}
use native.Mathlib.Decide.{dec_lt}
use lib.Dec.{leb, ltb, eqb}
use lib.ListN.{length, get_or, take, replicate, length-replicate, get_or-replicate, get_or-eq_default}
use Rattle.std.proofs.lemmas.Bool.Decides.{nat_tests}
use Rattle.lists.specs.Lists.{any}
use Rattle.lists.proofs.Tests.{eqb_comm}
use Rattle.lists.proofs.Prefixes.{any_take_none, any_take_more, any_take_all}
use Rattle.rows.specs.Rows.{marked, linked_in, With, Linked, row_words}
use Rattle.rows.proofs.Marks.{clear_row}
use Rattle.picture.specs.declared.Link.{Link}
use Rattle.picture.specs.Rules.{no_link}
use Rattle.network.specs.Rows.{Clear, RowsOf}

-- a table of rows of zeros marks nothing
clear_table : (m n a b : ℕ) → linked_in (replicate m (replicate n 0)) a b ≡ false
unfolding linked_in
clear_table m n a b =
    by_cases
    (dec_lt a m)
    (λ l. ap (λ (r : List ℕ). marked r b) (get_or-replicate m a (replicate n 0) [] l) ∙ clear_row n b)
    (λ g. ap (λ (r : List ℕ). marked r b) (get_or-eq_default (replicate m (replicate n 0)) [] {n = a} (omega (arith, length-replicate m (replicate {A = ℕ} n 0)))) ∙ clear_row 0 b)

-- a table as it is made
pub clear_made : (k : ℕ) → Clear k (replicate k (replicate row_words 0))
clear_made k = record { many = length-replicate k (replicate {A = ℕ} row_words 0); none = clear_table k row_words }

-- ---- a table, mark by mark

-- the link leads from x to y
abbrev pub leads : ℕ → ℕ → Link → Bool
leads x y l = eqb l.from x && eqb l.to y

-- a table of k rows with the first i links, of which each marks y in row x where f says so
abbrev pub Linking : ℕ → (ℕ → ℕ → Link → Bool) → List Link → List (List ℕ) → ℕ → Type 0
Linking k f ls table i = RowsOf k (λ x y. any (f x y) (take i ls)) table

module _ (k : ℕ) (f : ℕ → ℕ → Link → Bool) (ls : List Link) where
  pub linking_begun : (table : List (List ℕ)) → Clear k table → Linking k f ls table 0
  linking_begun table c = record { many = c.many; same = λ x y. c.none x y ∙ sym (any_take_none no_link (f x y) ls) }

  -- a link that is marked a second time counts once: its mark is there already
  pub linking_next : (table table' : List (List ℕ)) (i a b : ℕ) → Linking k f ls table i → i < length ls
      → ((x y : ℕ) → (eqb x a && eqb y b) ≡ f x y (get_or ls i no_link)) → Linked table a b table' → Linking k f ls table' (i + 1)
  linking_next table table' i a b r h here m =
      record { many = m.many ∙ r.many; same = λ x y. m.links x y ∙ ap₂ ◌||◌ (r.same x y) (here x y) ∙ sym (any_take_more no_link (f x y) ls i h) }

  pub linking_ended : (table : List (List ℕ)) (i : ℕ) → Linking k f ls table i → length ls ≤ i → RowsOf k (λ x y. any (f x y) ls) table
  linking_ended table i r h = record { many = r.many; same = λ x y. r.same x y ∙ any_take_all no_link (f x y) ls i h }

-- a link marks its second end in the row of its first, or the other way round
pub link_marks : (l l' : Link) → l ≡ l' → (x y : ℕ) → (eqb x l.from && eqb y l.to) ≡ leads x y l'
link_marks l l' e x y = ap₂ ◌&&◌ (eqb_comm x l.from) (eqb_comm y l.to) ∙ ap (leads x y) e

pub link_marked : (l l' : Link) → l ≡ l' → (x y : ℕ) → (eqb x l.to && eqb y l.from) ≡ leads y x l'
link_marked l l' e x y = and_comm (eqb x l.to) (eqb y l.from) ∙ link_marks l l' e y x

-- ---- a row, place by place

-- one place more is looked at: it is marked, or it is not
module _ (row : List ℕ) (v : ℕ) where
  hit : {row' : List ℕ} → With row v row' → (u : ℕ) → marked row' u ≡ (marked row u || (eqb u v && true))
  hit w u = rw and-true (w.marks u)

  miss : (u : ℕ) → marked row u ≡ (marked row u || (eqb u v && false))
  miss u = rw (and-false, or-false)

-- the places from 1 up to v are looked at, and marked where f says so
pub record Scanned (f : ℕ → Bool) (row : List ℕ) (v : ℕ) : Type 0 where
  pub same : (u : ℕ) → marked row u ≡ (leb 1 u && (ltb u v && f u))

module _ (f : ℕ → Bool) where
  pub scanned_begun : (n : ℕ) → Scanned f (replicate n 0) 1
  scanned_begun n = record { same = λ u. clear_row n u ∙ sym (none u) }
    where
      none : (u : ℕ) → (leb 1 u && (ltb u 1 && f u)) ≡ false
      none u = grind (arith, nat_tests)

  -- the place v is looked at: f says so and it is marked, or f does not
  next_same : (row row' : List ℕ) (v : ℕ) (b : Bool) → 1 ≤ v → Scanned f row v → f v ≡ b
      → ((u : ℕ) → marked row' u ≡ (marked row u || (eqb u v && b))) → Scanned f row' (v + 1)
  next_same row row' v b h s e m = record { same = λ u. m u ∙ ap (λ (x : Bool). x || (eqb u v && b)) (s.same u) ∙ go u }
    where
      go : (u : ℕ) → ((leb 1 u && (ltb u v && f u)) || (eqb u v && b)) ≡ (leb 1 u && (ltb u (v + 1) && f u))
      go u = grind (arith, nat_tests)

  pub scanned_hit : (row row' : List ℕ) (v : ℕ) → 1 ≤ v → Scanned f row v → f v ≡ true → With row v row' → Scanned f row' (v + 1)
  scanned_hit row row' v h s e w = next_same row row' v true h s e (hit row v w)

  pub scanned_miss : (row : List ℕ) (v : ℕ) → 1 ≤ v → Scanned f row v → f v ≡ false → Scanned f row (v + 1)
  scanned_miss row v h s e = next_same row row v false h s e (miss row v)

-- ---- a row, from its last place down

-- of the places at which f holds, those above v are marked
pub record Above (f : ℕ → Bool) (row : List ℕ) (v : ℕ) : Type 0 where
  pub same : (u : ℕ) → marked row u ≡ (ltb v u && f u)

module _ (f : ℕ → Bool) where
  pub above_begun : (n v : ℕ) → ((u : ℕ) → v < u → f u ≡ false) → Above f (replicate n 0) v
  above_begun n v h = record { same = λ u. clear_row n u ∙ sym (none u) }
    where
      none : (u : ℕ) → (ltb v u && f u) ≡ false
      none u = by_cases (dec_lt v u) (λ l. simp (h u l, and-false)) (λ n. grind (arith, nat_tests))

  -- the place v is looked at: f says so and it is marked, or f does not
  next_above : (row row' : List ℕ) (v : ℕ) (b : Bool) → 1 ≤ v → Above f row v → f v ≡ b
      → ((u : ℕ) → marked row' u ≡ (marked row u || (eqb u v && b))) → Above f row' (v - 1)
  next_above row row' v b h s e m = record { same = λ u. m u ∙ ap (λ (x : Bool). x || (eqb u v && b)) (s.same u) ∙ go u }
    where
      go : (u : ℕ) → ((ltb v u && f u) || (eqb u v && b)) ≡ (ltb (v - 1) u && f u)
      go u = grind (arith, nat_tests)

  pub above_hit : (row row' : List ℕ) (v : ℕ) → 1 ≤ v → Above f row v → f v ≡ true → With row v row' → Above f row' (v - 1)
  above_hit row row' v h s e w = next_above row row' v true h s e (hit row v w)

  pub above_miss : (row : List ℕ) (v : ℕ) → 1 ≤ v → Above f row v → f v ≡ false → Above f row (v - 1)
  above_miss row v h s e = next_above row row v false h s e (miss row v)
