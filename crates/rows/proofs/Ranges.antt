-- Ranges of locations: what is outside them, and how a word's marks are told by their numbers. Assumes nothing.
use mathlib.Core.Bool.{Bool, not, ◌&&◌, and_comm}
use mathlib.Core.Logic.{by_cases}
use mathlib.Core.Path.{◌≡◌, refl, ap, ◌∙◌}
use Prim.Native.Nat.{ℕ, zero, suc, ◌+◌, ◌-◌, ◌^◌, ◌≤◌, ◌<◌}
use native.Mathlib.Omega.{arith}
use native.Mathlib.Decide.{dec_lt}
use native.Mathlib.Numerals.{add-one}
use lib.Bits.{bit_and, and_le_l}
use lib.Dec.{T, leb, eqb}
use Rattle.std.specs.Int.{w64, bit_at, bit_not}
use Rattle.std.proofs.lemmas.Nat.Bits.{bit_at_ones, bit_at_ones_above}
use Rattle.std.proofs.lemmas.Bool.Decides.{nat_tests}
use Rattle.rows.specs.declared.Range.{Range}
use Rattle.rows.specs.Rows.{in_word}
use Rattle.rows.specs.Ranges.{in_range, no_range, without, UpTo, LeftOut}
use Rattle.lists.specs.Lists.{range, any}
use Rattle.lists.proofs.Ranges.{any_range, range_any}
use Rattle.rows.proofs.Digits.{digit_and, digit_not}

-- a test of the numbers behind those of a range
pub any_next : (f : ℕ → Bool) (i k : ℕ) → any (λ v. f (v + 1)) (range i k) ≡ any f (range (i + 1) k)
unfolding range any
any_next f i zero = refl
any_next f i (suc k) = rw (← add-one i, any_next f (i + 1) k, add-one (i + 1))

-- ---- marks outside a range

module _ (r : Range) (marks : ℕ → Bool) (v : ℕ) where
  pub without_both : T (without r marks v) → T (marks v) × ¬ T (in_range r v)
  unfolding without
  without_both t = (grind (arith, nat_tests), λ i. grind (arith, nat_tests))

  pub both_without : T (marks v) → ¬ T (in_range r v) → T (without r marks v)
  unfolding without
  both_without m n = grind (arith, nat_tests)

-- what is marked by one is marked by the other, outside a range too
pub without_as : (r : Range) (before after : ℕ → Bool) (v : ℕ) → (T (before v) → T (after v)) → T (without r before v) → T (without r after v)
without_as r before after v to t = let s = without_both r before v t in both_without r after v (to s.0) s.1

-- no location is of the range of none, so all are outside it
pub none_without : (marks : ℕ → Bool) (v : ℕ) → without no_range marks v ≡ marks v
unfolding without in_range
none_without marks v = grind (arith, nat_tests)

-- ---- whether a range has a mark

module _ (r : Range) (marks : ℕ → Bool) where
  pub any_in_range : T (any marks (range (r.after + 1) (r.last - r.after))) → (v : ℕ) × T (in_range r v) × T (marks v)
  unfolding in_range
  any_in_range t =
      let x = any_range marks (r.after + 1) (r.last - r.after) t in
      let v = x.number in
      (v, grind (arith, nat_tests, x.from, x.below), x.passes)

  pub in_range_any : (v : ℕ) → T (in_range r v) → T (marks v) → T (any marks (range (r.after + 1) (r.last - r.after)))
  unfolding in_range
  in_range_any v i t = range_any marks (r.after + 1) (r.last - r.after) (record { number = v; from = grind (arith, nat_tests); below = grind (arith, nat_tests); passes = t })

-- ---- words of digits that are set from the lowest on

-- those of 2 ^ k - 1 are set up to location v, where k is the number of places up to there
pub ones_up_to : (base v k : ℕ) → ((i : ℕ) → i < 64 → i < k → base + i ≤ v) → ((i : ℕ) → i < 64 → base + i ≤ v → i < k) → UpTo base v (2 ^ k - 1)
ones_up_to base v k to back = record { digits = λ i l. by_cases (dec_lt i k) (λ h. grind (arith, nat_tests, bit_at_ones k i h, to i l h)) (λ g. grind (arith, nat_tests, bit_at_ones_above k i (omega arith), back i l)) }

-- ---- a word without the marks of a range

module _ (r : Range) (word base : ℕ) {last after : ℕ} (l : UpTo base r.last last) (a : UpTo base r.after after) (low : last < 2 ^ 64) (low' : after < 2 ^ 64) where
  -- the word as the machine makes it
  abbrev left : ℕ
  left = bit_and word (bit_not w64 (bit_and last (bit_not w64 after)))

  digit_left : (i : ℕ) → i < 64 → eqb (bit_at left i) 1 ≡ (eqb (bit_at word i) 1 && not (in_range r (base + i)))
  unfolding in_range
  digit_left i h =
      let places : ℕ = bit_and last (bit_not w64 after) in
      let fits : places < 2 ^ 64 = omega (arith, and_le_l last (bit_not w64 after)) in
      let above : leb (r.after + 1) (base + i) ≡ not (leb (base + i) r.after) = grind (arith, nat_tests) in
      digit_and word (bit_not w64 places) i
      ∙ rw (digit_not places i fits h, digit_and last (bit_not w64 after) i, digit_not after i low' h, l.digits i h, a.digits i h, above) (ap (λ x. eqb (bit_at word i) 1 && not x) (and_comm (leb (base + i) r.last) (not (leb (base + i) r.after))))

  pub left_out : LeftOut r word base left
  unfolding in_word without
  left_out = record { marks = λ v. grind (arith, nat_tests, digit v) }
    where
      digit : (v : ℕ) → base ≤ v → v < base + 64 → eqb (bit_at left (v - base)) 1 ≡ (eqb (bit_at word (v - base)) 1 && not (in_range r v))
      digit v f t = let e : base + (v - base) ≡ v = omega arith in digit_left (v - base) (omega arith) ∙ rw e
