-- The least number with a property that can be decided. Assumes nothing.
use mathlib.Core.Logic.{◌⊎◌, inl, inr, ⊎_elim, by_cases}
use mathlib.Core.Path.{subst}
use Prim.Native.Nat.{ℕ, zero, suc, ◌≤◌, ◌<◌}
use native.Mathlib.Omega.{arith}
use native.Mathlib.Decide.{dec_lt, ℕ_discrete}

-- j has the property, and no lower number has
pub record Least (P : ℕ → Type 0) (j : ℕ) : Type 0 where
  pub holds : P j
  pub least : (i : ℕ) → P i → j ≤ i

module _ (P : ℕ → Type 0) (decide : (i : ℕ) → Dec (P i)) where
  -- no number below n has the property, or there is a least one that has it
  pub search : (n : ℕ) → ((i : ℕ) → i < n → ¬ P i) ⊎ ((j : ℕ) × Least P j)
  search zero = inl (λ i l. absurd (omega arith))
  search (suc n) = ⊎_elim (λ none. next none (decide n)) (λ found. inr found) (search n)
    where
      next : ((i : ℕ) → i < n → ¬ P i) → Dec (P n) → ((i : ℕ) → i < suc n → ¬ P i) ⊎ ((j : ℕ) × Least P j)
      next none (yes p) = inr (n, record { holds = p; least = λ i q. by_cases (dec_lt i n) (λ l. absurd (none i l q)) (λ nl. omega arith) })
      next none (no np) = inl (λ i l. by_cases (ℕ_discrete i n) (λ e p. np (subst P e p)) (λ ne. none i (omega arith)))

  -- where some number has the property, there is a least one
  pub least : (k : ℕ) → P k → (j : ℕ) × Least P j
  least k p = ⊎_elim (λ none. absurd (none k (omega arith) p)) (λ found. found) (search (suc k))
