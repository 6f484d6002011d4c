-- The lengths that choose answers are small. Assumes nothing.
use mathlib.Core.Path.{◌≡◌, sym}
use mathlib.Core.List.{List, [], ◌∷◌, head-eq_of_cons-eq}
use Prim.Native.Nat.{ℕ, ◌^◌, ◌<◌}
use native.Mathlib.Omega.{arith}
use Rattle.lists.specs.Lists.{outcome}
use Rattle.lists.proofs.Answers.{outcome_zero}
use Rattle.lists.proofs.Faults.{first_zero}
use Rattle.evidence.specs.Calls.{length_for, choose_fault}
use Rattle.evidence.proofs.Lengths.{length_most}

pub chosen_small : (bs buf : List ℕ) (k : ℕ) → 0 ∷ k ∷ [] ≡ outcome (choose_fault bs buf) (length_for bs ∷ []) → k < 2 ^ 31
unfolding choose_fault
chosen_small bs buf k e =
    let t = outcome_zero (choose_fault bs buf) (sym e) in
    omega (arith, head-eq_of_cons-eq t.1, length_most bs (first_zero _ t.0 0))
