-- No more pigeons than holes. Assumes nothing.
use mathlib.Core.Logic.{◌⊎◌, inl, inr, by_cases}
use mathlib.Core.Path.{◌≡◌, refl, subst}
use Prim.Native.Nat.{ℕ, zero, suc, ◌≤◌, ◌<◌, zero-le, suc-le-suc}
use native.Mathlib.Omega.{arith}
use native.Mathlib.Decide.{ℕ_discrete}
use native.Mathlib.Nat.{not-suc-le-zero}

-- a pigeon that sat in hole n sits in hole x instead
Moved : (R : ℕ → ℕ → Type 0) (n x i y : ℕ) → Type 0
Moved R n x i y = R i y ⊎ ((y ≡ x) × R i n)

-- where each i below m has a hole below n, and no two have the same, m is at most n
pub pigeons : (n m : ℕ) (R : ℕ → ℕ → Type 0) → ((i : ℕ) → i < m → (x : ℕ) × (x < n) × R i x) → ((i j x : ℕ) → i < m → j < m → R i x → R j x → i ≡ j) → m ≤ n
unfolding Moved
pigeons zero zero R f one = zero-le
pigeons zero (suc m) R f one = absurd (not-suc-le-zero (f m (omega arith)).1)
pigeons (suc n) zero R f one = zero-le
pigeons (suc n) (suc m) R f one = suc-le-suc (pigeons n m (Moved R n x) f' one')
  where
    x : ℕ
    x = (f m (omega arith)).0

    lx : x < suc n
    lx = (f m (omega arith)).1

    rx : R m x
    rx = (f m (omega arith)).2

    f' : (i : ℕ) → i < m → (y : ℕ) × (y < n) × Moved R n x i y
    f' i l =
        by_cases
        (ℕ_discrete (f i (omega arith)).0 n)
        (λ e.
        let r : R i n = subst (R i) e (f i (omega arith)).2 in
        by_cases
        (ℕ_discrete x n)
        (λ q. absurd (omega (arith, one i m n (omega arith) (omega arith) r (subst (R m) q rx))))
        (λ ne. (x, omega (arith, lx), inr (refl, r))))
        (λ ne. ((f i (omega arith)).0, omega (arith, (f i (omega arith)).1), inl (f i (omega arith)).2))

    one' : (i j y : ℕ) → i < m → j < m → Moved R n x i y → Moved R n x j y → i ≡ j
    one' i j y li lj (inl a) (inl b) = one i j y (omega arith) (omega arith) a b
    one' i j y li lj (inl a) (inr b) = absurd (omega (arith, one i m x (omega arith) (omega arith) (subst (R i) b.0 a) rx))
    one' i j y li lj (inr a) (inl b) = absurd (omega (arith, one j m x (omega arith) (omega arith) (subst (R j) a.0 b) rx))
    one' i j y li lj (inr a) (inr b) = one i j n (omega arith) (omega arith) a.1 b.1
