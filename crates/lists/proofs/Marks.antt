-- How many of a list of marks are set: marks that only grow stand still, or are more. Assumes nothing.
use mathlib.Core.Path.{◌≡◌, refl, ap}
use mathlib.Core.Bool.{Bool, true, false}
use mathlib.Core.Logic.{◌⊎◌, inl, inr}
use mathlib.Core.List.{List, [], ◌∷◌}
use Prim.Native.Nat.{ℕ, suc, ◌<◌, ◌≤◌, zero-le, suc-le-suc}
use native.Mathlib.Omega.{arith}
use lib.Dec.{T}
use lib.ListN.{length, get_or}

unfoldable pub count : List Bool → ℕ
count [] = 0
count (true ∷ t) = suc (count t)
count (false ∷ t) = count t

pub count_le : (t : List Bool) → count t ≤ length t
unfolding count
count_le [] = zero-le
count_le (true ∷ t) = suc-le-suc (count_le t)
count_le (false ∷ t) = omega (arith, count_le t)

-- what a further mark in front makes of the choice
same_head : (b : Bool) (s t : List Bool) → (s ≡ t) ⊎ (count s < count t) → (◌≡◌ {A = List Bool} (b ∷ s) (b ∷ t)) ⊎ (count (b ∷ s) < count (b ∷ t))
unfolding count
same_head b s t (inl e) = inl (ap {B = List Bool} (λ r. b ∷ r) e)
same_head true s t (inr h) = inr (suc-le-suc h)
same_head false s t (inr h) = inr h

new_head : (s t : List Bool) → (s ≡ t) ⊎ (count s < count t) → count (false ∷ s) < count (true ∷ t)
unfolding count
new_head s t (inl e) = omega (arith, ap count e)
new_head s t (inr h) = omega arith

-- marks that keep every mark that was set are the same, or more are set
pub grows : (s t : List Bool) → length s ≡ length t → ((i : ℕ) → T (get_or s i false) → T (get_or t i false)) → (s ≡ t) ⊎ (count s < count t)
grows [] [] e h = inl refl
grows [] (y ∷ t) e h = absurd (omega (arith, e))
grows (x ∷ s) [] e h = absurd (omega (arith, e))
grows (true ∷ s) (true ∷ t) e h = same_head true s t (grows s t (omega (arith, e)) (λ i. h (suc i)))
grows (true ∷ s) (false ∷ t) e h = absurd (h 0 tt)
grows (false ∷ s) (true ∷ t) e h = inr (new_head s t (grows s t (omega (arith, e)) (λ i. h (suc i))))
grows (false ∷ s) (false ∷ t) e h = same_head false s t (grows s t (omega (arith, e)) (λ i. h (suc i)))
