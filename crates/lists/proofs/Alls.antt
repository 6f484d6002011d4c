-- Tests of all elements of a list, by places and over a range that grows at its end. Assumes nothing.
use mathlib.Core.Path.{◌≡◌, refl, sym, ap, ap₂, ◌∙◌}
use mathlib.Core.Bool.{Bool, true, false, ◌&&◌, and_assoc, and-true}
use Prim.Native.Nat.{ℕ, zero, suc, ◌+◌, ◌≤◌, ◌<◌}
use native.Mathlib.Omega.{arith}
use native.Mathlib.Nat.{add-zero, add-suc, suc-add}
use lib.Dec.{T}
use Rattle.lists.specs.Lists.{range, all}
pub use Rattle.lists.proofs.Tests.{is_true}

-- tests that imply each other are one
pub same_test : (a b : Bool) → (T a → T b) → (T b → T a) → a ≡ b
same_test true true f g = refl
same_test true false f g = absurd (f tt)
same_test false true f g = absurd (g tt)
same_test false false f g = refl

module _ (f : ℕ → Bool) where
  pub all_more : (i k : ℕ) → all f (range i (suc k)) ≡ (all f (range i k) && f (i + k))
  unfolding range all
  all_more i zero = and-true (f i) ∙ ap f (sym (add-zero i))
  all_more i (suc k) =
      ap (λ (b : Bool). f i && b) (all_more (suc i) k ∙ ap (λ (j : ℕ). all f (range (suc i) k) && f j) (suc-add i k ∙ sym (add-suc i k)))
      ∙ sym (and_assoc (f i) (all f (range (suc i) k)) (f (i + suc k)))

  -- a test that says the same of each number
  pub all_same : (g : ℕ → Bool) (i k : ℕ) → ((u : ℕ) → i ≤ u → u < i + k → f u ≡ g u) → all f (range i k) ≡ all g (range i k)
  unfolding range all
  all_same g i zero h = refl
  all_same g i (suc k) h = ap₂ (λ (a b : Bool). a && b) (h i (omega arith) (omega arith)) (all_same g (suc i) k (λ u l s. h u (omega arith) (omega arith)))
