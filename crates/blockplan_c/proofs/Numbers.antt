-- A refusal's number to C, and what an answer without a value is there. Assumes nothing.
use mathlib.Core.Path.{◌≡◌, refl}
use mathlib.Core.List.{[], ◌∷◌}
use Prim.Native.Nat.{ℕ, zero, suc, ◌^◌, ◌<◌}
use native.Mathlib.Omega.{arith}
use lib.IntN.{pos, neg_ℤ}
use Rattle.std.specs.Prelude.{Result, Ok, Err}
use Rattle.std.specs.Result.{result_and}
use Rattle.picture.specs.declared.refusals.Refusal.{Refusal}
use Rattle.picture.specs.Refusals.{answer_numbers}
use Rattle.blockplan_c.specs.Answers.{to_c}

-- a refusal is minus its number, and 0 would be 0
pub refused_number : (k : ℕ) → neg_ℤ (pos k) ≡ to_c (k ∷ [])
unfolding to_c
refused_number zero = refl
refused_number (suc k) = refl

-- an answer without a value is told as one with the length 0 is
pub done_length : (r : Result (Unit {0}) Refusal) (n : ℕ) → result_and {U = ℕ} r (Ok 0) ≡ Ok n → n < 2 ^ 31
done_length (Ok _) n e = let z : 0 ≡ n = cc in omega arith
done_length (Err e) n q = absurd cc

pub done_told : (r : Result (Unit {0}) Refusal) → to_c (answer_numbers (λ n. n ∷ []) (result_and {U = ℕ} r (Ok 0))) ≡ to_c (answer_numbers (λ _. []) r)
unfolding to_c answer_numbers
done_told (Ok _) = refl
done_told (Err e) = refl
