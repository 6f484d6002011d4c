-- Laws of sums over the places at which something holds. Assumes nothing.
use mathlib.Core.Path.{◌≡◌, refl, sym, ap, subst}
use mathlib.Core.Bool.{Bool, true, false}
use mathlib.Core.List.{map}
use Prim.Native.Nat.{ℕ, zero, suc, ◌+◌, ◌*◌, ◌≤◌, zero-le}
use native.Mathlib.Nat.{zero-add, suc-mul}
use native.Mathlib.Omega.{arith}
use lib.Dec.{T}
use Rattle.lists.specs.Lists.{range, on, sum}
use Rattle.lists.specs.Totals.{Total, none, with, without}

-- a sum over a test that says the same as P
pub total : (P : ℕ → Type 0) (w : ℕ → ℕ) (f : ℕ → Bool) → ((c : ℕ) → T (f c) → P c) → ((c : ℕ) → P c → T (f c))
    → (i k : ℕ) → Total P w i k (sum (map (λ c. on (f c) (w c)) (range i k)))
unfolding range sum on
total P w f y n i zero = none
total P w f y n i (suc k) = go (f i) (y i) (n i) (total P w f y n (suc i) k)
  where
    rest : ℕ
    rest = sum (map (λ c. on (f c) (w c)) (range (suc i) k))

    go : (b : Bool) → (T b → P i) → (P i → T b) → Total P w (suc i) k rest → Total P w i (suc k) (on b (w i) + rest)
    go true a b r = with (a tt) r
    go false a b r = subst (λ (s : ℕ). Total P w i (suc k) s) (sym (zero-add rest)) (without b r)

-- there is one sum
pub total_one : {P : ℕ → Type 0} {w : ℕ → ℕ} {i k s t : ℕ} → Total P w i k s → Total P w i k t → s ≡ t
total_one none none = refl
total_one {w = w} (with {i = i} p a) (with q b) = ap (λ (x : ℕ). w i + x) (total_one a b)
total_one (with p a) (without q b) = absurd (q p)
total_one (without p a) (with q b) = absurd (p q)
total_one (without p a) (without q b) = total_one a b

pub sum_le : (f : ℕ → ℕ) (m i k : ℕ) → ((c : ℕ) → f c ≤ m) → sum (map f (range i k)) ≤ k * m
unfolding sum range
sum_le f m i zero h = zero-le
sum_le f m i (suc k) h = omega (arith, h i, sum_le f m (suc i) k h, suc-mul k m)
