-- What an answer tells by the number of the first fault. Assumes nothing.
use mathlib.Core.Path.{◌≡◌, refl}
use mathlib.Core.List.{List, ◌∷◌}
use Prim.Native.Nat.{ℕ, zero, suc}
use native.Mathlib.Omega.{arith}
use Rattle.lists.specs.Lists.{outcome}

-- an answer of 0 is of no fault, and its values are told
pub outcome_zero : (k : ℕ) {vs ws : List ℕ} → outcome k vs ≡ 0 ∷ ws → (k ≡ 0) × (vs ≡ ws)
unfolding outcome
outcome_zero zero e = (refl, cc)
outcome_zero (suc k) e = let z : suc k ≡ 0 = cc in absurd (omega arith)
