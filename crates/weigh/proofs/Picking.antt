-- The sums over the endpoints that rows pick, endpoint by endpoint. Assumes nothing.
use mathlib.Core.Path.{◌≡◌, refl, ◌∙◌}
use mathlib.Core.Bool.{Bool, not, ◌&&◌, ◌||◌}
use mathlib.Core.List.{List, [], map}
use Prim.Native.Nat.{ℕ, suc, ◌+◌, ◌*◌, ◌≤◌}
use native.Mathlib.Omega.{arith}
use lib.ListN.{get_or}
use Rattle.lists.specs.Lists.{range, on, sum, any}
use Rattle.lists.proofs.Faults.{on_le}
use Rattle.rows.specs.Rows.{marked}
use Rattle.picture.specs.Layout.{weight_max}
use Rattle.weigh.specs.Sums.{Meets, LostRow, LostBetween, sum_between, mark_between}
use Rattle.weigh.specs.declared.Lost.{Lost}

-- what is added of an endpoint that the first test picks and the second does not
abbrev each : (ℕ → ℕ) → (ℕ → Bool) → (ℕ → Bool) → ℕ → ℕ
each w f g u = on (f u && not (g u)) (w u)

-- whether it is protected too
abbrev guards : List ℕ → (ℕ → Bool) → (ℕ → Bool) → ℕ → Bool
guards guarded f g u = marked guarded u && (f u && not (g u))

-- the k endpoints above c are looked at
pub record Picking (table : List (List ℕ)) (weights guarded before after : List ℕ) (lost : Lost) (c k : ℕ) : Type 0 where
  pub small : lost.weight ≤ k * weight_max
  pub few : lost.count ≤ k
  pub weighs : (f g : ℕ → Bool) → Meets table before f → Meets table after g → lost.weight ≡ sum (map (each (λ u. get_or weights u 0) f g) (range (suc c) k))
  pub counts : (f g : ℕ → Bool) → Meets table before f → Meets table after g → lost.count ≡ sum (map (each (λ _. 1) f g) (range (suc c) k))
  pub marks : (f g : ℕ → Bool) → Meets table before f → Meets table after g → lost.mark ≡ on (any (guards guarded f g) (range (suc c) k)) 1

module _ (table : List (List ℕ)) (weights guarded before after : List ℕ) where
  pub picking_begun : (c : ℕ) → Picking table weights guarded before after (record { weight = 0; count = 0; mark = 0 }) c 0
  unfolding range sum any on
  picking_begun c = record { small = omega arith; few = omega arith; weighs = λ f g a b. refl; counts = λ f g a b. refl; marks = λ f g a b. refl }

  -- one endpoint more, the one below them: it is lost or it is not
  module _ (c k : ℕ) (hit : Bool) (l : LostRow (get_or table (suc c) []) before after hit) where
    here : (f g : ℕ → Bool) → Meets table before f → Meets table after g → hit ≡ (f (suc c) && not (g (suc c)))
    here f g a b = l.same (f (suc c)) (g (suc c)) (a.meet (suc c)) (b.meet (suc c))

    sum_first : (w : ℕ → ℕ) (f g : ℕ → Bool) → Meets table before f → Meets table after g → {s : ℕ} → s ≡ sum (map (each w f g) (range (suc (suc c)) k))
        → s + on hit (w (suc c)) ≡ sum (map (each w f g) (range (suc c) (suc k)))
    unfolding range sum
    sum_first w f g a b {s} e = rw (e, here f g a b) (omega arith)

    mark_first : (f g : ℕ → Bool) → Meets table before f → Meets table after g → {m : ℕ}
        → m ≡ on ((marked guarded (suc c) && hit) || any (guards guarded f g) (range (suc (suc c)) k)) 1 → m ≡ on (any (guards guarded f g) (range (suc c) (suc k))) 1
    unfolding range any
    mark_first f g a b e = rw (here f g a b) at e

    next : (lost lost' : Lost) → Picking table weights guarded before after lost (suc c) k → get_or weights (suc c) 0 ≤ weight_max
        → lost'.weight ≡ lost.weight + on hit (get_or weights (suc c) 0) → lost'.count ≡ lost.count + on hit 1
        → ((m : Bool) → lost.mark ≡ on m 1 → lost'.mark ≡ on ((marked guarded (suc c) && hit) || m) 1) → Picking table weights guarded before after lost' c (suc k)
    next lost lost' p h e n m =
        record {
          small = omega (arith, p.small, on_le hit (get_or weights (suc c) 0) weight_max (λ _. h));
          few = omega (arith, p.few, on_le hit 1 1 (λ _. omega arith));
          weighs = λ f g a b. e ∙ sum_first (λ u. get_or weights u 0) f g a b (p.weighs f g a b);
          counts = λ f g a b. n ∙ sum_first (λ _. 1) f g a b (p.counts f g a b);
          marks = λ f g a b. mark_first f g a b (m _ (p.marks f g a b));
        }

  pub picking_next : (c c' k k' : ℕ) → c ≡ suc c' → k' ≡ suc k → (hit : Bool) → LostRow (get_or table c []) before after hit → (lost lost' : Lost)
      → Picking table weights guarded before after lost c k → get_or weights c 0 ≤ weight_max
      → lost'.weight ≡ lost.weight + on hit (get_or weights c 0) → lost'.count ≡ lost.count + on hit 1
      → ((m : Bool) → lost.mark ≡ on m 1 → lost'.mark ≡ on ((marked guarded c && hit) || m) 1) → Picking table weights guarded before after lost' c' k'
  picking_next c c' k k' e n = rw (e, n) (next c' k)

  -- every endpoint was looked at
  all : (lost : Lost) (d : ℕ) → Picking table weights guarded before after lost 0 d → LostBetween table weights guarded d before after lost
  unfolding sum_between mark_between
  all lost d p = record { weighs = p.weighs; counts = p.counts; marks = p.marks }

  pub picking_ended : (lost : Lost) (c k d : ℕ) → c ≡ 0 → k ≡ d → Picking table weights guarded before after lost c k → LostBetween table weights guarded d before after lost
  picking_ended lost c k d z e = rw (z, e) (all lost d)
