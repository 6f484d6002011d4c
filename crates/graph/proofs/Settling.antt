-- The marks stand still by round n, so they are what chains of any length reach. Assumes nothing.
use mathlib.Core.Path.{◌≡◌, sym, ap, ◌∙◌, subst}
use mathlib.Core.Bool.{Bool, false}
use mathlib.Core.Logic.{◌⊎◌, inl, inr}
use mathlib.Core.List.{List, map}
use Prim.Native.Nat.{ℕ, zero, suc, ◌+◌, ◌-◌, ◌≤◌, ◌<◌, zero-le, suc-le-suc}
use native.Mathlib.Omega.{arith}
use native.Mathlib.Decide.{dec_le}
use native.Mathlib.Nat.{add-zero, add-suc}
use lib.Dec.{T}
use lib.ListN.{get_or}
use Rattle.lists.specs.Lists.{range}
use Rattle.lists.proofs.Marks.{count, count_le, grows}
use Rattle.graph.specs.Chains.{Reached}
use Rattle.graph.specs.Rounds.{further, within, reached_in}
use Rattle.graph.proofs.Marking.{Marked, length_within, marked_next, marked_later, marked_chain, chain_marked}

module _ (linked : ℕ → ℕ → Bool) (held : ℕ → Bool) (n : ℕ) where
  -- a round before round k that marks nothing new
  record Still (k : ℕ) : Type 0 where
    round : ℕ
    before : round < k
    same : within linked held n (suc round) ≡ within linked held n round

  -- the first mark is the origin's
  first_mark : 0 < count (within linked held n zero)
  unfolding within range count
  first_mark = suc-le-suc zero-le

  -- each round marks one location more, until a round marks nothing new
  grown : (k : ℕ) → Still k ⊎ (k < count (within linked held n k))
  grown zero = inr first_mark
  grown (suc k) =
      go (grown k)
      (grows (within linked held n k) (within linked held n (suc k)) (length_within linked held n k ∙ sym (length_within linked held n (suc k))) (marked_next linked held n k))
    where
      go : Still k ⊎ (k < count (within linked held n k)) → (within linked held n k ≡ within linked held n (suc k)) ⊎ (count (within linked held n k) < count (within linked held n (suc k)))
          → Still (suc k) ⊎ (suc k < count (within linked held n (suc k)))
      go (inl s) g = inl (record { round = s.round; before = omega arith; same = s.same })
      go (inr h) (inl e) = inl (record { round = k; before = omega arith; same = sym e })
      go (inr h) (inr g) = inr (omega arith)

  -- there are n + 1 locations to mark, so one of the rounds up to n marks nothing new
  settled : Still (suc n)
  settled = go (grown (suc n))
    where
      go : Still (suc n) ⊎ (suc n < count (within linked held n (suc n))) → Still (suc n)
      go (inl s) = s
      go (inr h) = absurd (omega (arith, count_le (within linked held n (suc n)), length_within linked held n (suc n)))

  -- and neither does any round after it
  stays : (i : ℕ) → within linked held n (suc i) ≡ within linked held n i → (d : ℕ) → within linked held n (i + d) ≡ within linked held n i
  unfolding within
  stays i e zero = ap (within linked held n) (add-zero i)
  stays i e (suc d) = ap (within linked held n) (add-suc i d) ∙ ap (λ (t : List Bool). map (further linked held n t) (range 0 (suc n))) (stays i e d) ∙ e

  -- what any round marks, round n does
  marked_in : (k v : ℕ) → Marked linked held n k v → T (get_or (reached_in linked held n) v false)
  unfolding reached_in
  marked_in k v t = go (dec_le k n)
    where
      i : ℕ
      i = settled.round

      go : Dec (k ≤ n) → Marked linked held n n v
      go (yes h) = marked_later linked held n k n v h t
      go (no h) =
          marked_later linked held n i n v (omega (arith, settled.before))
          (subst (λ (m : List Bool). T (get_or m v false)) (ap (within linked held n) (omega (arith, settled.before)) ∙ stays i settled.same (k - i)) t)

  -- ---- the marks after n rounds are the locations that are reached

  pub marked_reached : (v : ℕ) → T (get_or (reached_in linked held n) v false) → Reached linked held v
  unfolding reached_in
  marked_reached v t = let r = marked_chain linked held n n v t in record { links = r.links; chain = r.chain }

  module _ (named : (a b : ℕ) → T (linked a b) → (a ≤ n) × (b ≤ n)) where
    pub reached_marked : {v : ℕ} → Reached linked held v → T (get_or (reached_in linked held n) v false)
    reached_marked {v} r = marked_in r.links v (chain_marked linked held n named r.links v (record { links = r.links; few = omega arith; chain = r.chain }))
