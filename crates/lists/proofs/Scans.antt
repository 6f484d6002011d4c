-- Scans of a range, one number at a time: how many pass a test. Assumes nothing.
use mathlib.Core.Path.{◌≡◌, refl, ap, ◌∙◌}
use mathlib.Core.Bool.{Bool, true, false}
use Prim.Native.Nat.{ℕ, ◌+◌, ◌≤◌}
use native.Mathlib.Omega.{arith}
use lib.ListN.{length, length-append}
use Rattle.lists.specs.Lists.{range, filter}
use Rattle.lists.proofs.Ranges.{length_range}
use Rattle.lists.proofs.Filters.{length_filter_le}
use Rattle.lists.proofs.Growing.{filter_hit, filter_miss}

module _ (f : ℕ → Bool) where
  pub count_begun : (i : ℕ) → length (filter f (range i 0)) ≡ 0
  unfolding filter range
  count_begun i = refl

  pub count_hit : (i k : ℕ) → f (i + k) ≡ true → length (filter f (range i (k + 1))) ≡ length (filter f (range i k)) + 1
  count_hit i k e = ap length (filter_hit f i k e) ∙ length-append (filter f (range i k)) _

  pub count_miss : (i k : ℕ) → f (i + k) ≡ false → length (filter f (range i (k + 1))) ≡ length (filter f (range i k))
  count_miss i k e = ap length (filter_miss f i k e)

  pub count_le : (i k : ℕ) → length (filter f (range i k)) ≤ k
  count_le i k = omega (arith, length_filter_le f (range i k), length_range i k)
