-- The lowest digit of a word that is set, and the word without it. Assumes nothing.
use mathlib.Core.Logic.{by_cases}
use mathlib.Core.Path.{◌≡◌, refl, ap, ◌∙◌}
use Prim.Native.Nat.{ℕ, zero, suc, ◌-◌, ◌*◌, ◌/◌, ◌%◌, ◌^◌, ◌≤◌, ◌<◌}
use native.Mathlib.Omega.{arith}
use native.Mathlib.Decide.{dec_lt}
use native.Mathlib.Nat.{pow-suc}
use lib.Bits.{bit_and, and_step, and_self}
use lib.Count.{count_trailing_zeros, under}
use Rattle.std.specs.Int.{bit_at}
use Rattle.std.proofs.lemmas.Nat.Bits.{bit_at_lowest, bit_at-suc, bit_at_above}

-- the lowest digit of w that is set is at place i, and w & (w - 1) is w without it
pub record Low (w i : ℕ) : Type 0 where
  pub here : bit_at w i ≡ 1
  pub lowest : (k : ℕ) → bit_at w k ≡ 1 → i ≤ k
  pub cleared : bit_at (bit_and w (w - 1)) i ≡ 0
  pub others : (k : ℕ) → (k ≡ i → ⊥) → bit_at (bit_and w (w - 1)) k ≡ bit_at w k

-- the lowest digit of an odd word is at place 0, and that of an even word is that of its half, one place up
odd_and : (w : ℕ) → w % 2 ≡ 1 → bit_and w (w - 1) ≡ w / 2 * 2
odd_and w e =
    let h : (w - 1) / 2 ≡ w / 2 = omega arith in
    let m : (w - 1) % 2 ≡ 0 = omega arith in
    rw (and_step w (w - 1), h, m, e, and_self) (omega arith)

even_and : (w : ℕ) → w % 2 ≡ 0 → 0 < w → bit_and w (w - 1) ≡ bit_and (w / 2) (w / 2 - 1) * 2
even_and w e p =
    let h : (w - 1) / 2 ≡ w / 2 - 1 = omega arith in
    let m : (w - 1) % 2 ≡ 1 = omega arith in
    rw (and_step w (w - 1), h, m, e) (omega arith)

odd_low : (w : ℕ) → w % 2 ≡ 1 → Low w 0
odd_low w e =
    record {
      here = bit_at_lowest w ∙ e;
      lowest = λ k b. omega arith;
      cleared = rw (odd_and w e, bit_at_lowest) (omega arith);
      others = other;
    }
  where
    other : (k : ℕ) → (k ≡ 0 → ⊥) → bit_at (bit_and w (w - 1)) k ≡ bit_at w k
    other zero ne = absurd (ne refl)
    other (suc k) ne = let h : w / 2 * 2 / 2 ≡ w / 2 = omega arith in rw (odd_and w e, bit_at-suc, bit_at-suc, h)

even_low : (w i : ℕ) → w % 2 ≡ 0 → 0 < w → Low (w / 2) i → Low w (suc i)
even_low w i e p l =
    record {
      here = bit_at-suc w i ∙ l.here;
      lowest = above;
      cleared = rw (even_and w e p, bit_at-suc, half) l.cleared;
      others = other;
    }
  where
    half : bit_and (w / 2) (w / 2 - 1) * 2 / 2 ≡ bit_and (w / 2) (w / 2 - 1)
    half = omega arith

    above : (k : ℕ) → bit_at w k ≡ 1 → suc i ≤ k
    above zero b = absurd (omega (arith, bit_at_lowest w))
    above (suc k) b = omega (arith, l.lowest k (rw bit_at-suc at b))

    other : (k : ℕ) → (k ≡ suc i → ⊥) → bit_at (bit_and w (w - 1)) k ≡ bit_at w k
    other zero ne = rw (even_and w e p, bit_at_lowest, bit_at_lowest, e) (omega arith)
    other (suc k) ne = rw (even_and w e p, bit_at-suc, half, bit_at-suc) (l.others k (λ q. ne (ap suc q)))

-- trailing zeros are below the lowest digit that is set
pub low : (n w : ℕ) → 0 < w → w < 2 ^ n → Low w (count_trailing_zeros n w)
unfolding count_trailing_zeros
low zero w p l = absurd (omega arith)
low (suc n) w p l = go (w % 2) refl (λ q h. low n (w / 2) q h)
  where
    go : (r : ℕ) → w % 2 ≡ r → (0 < w / 2 → w / 2 < 2 ^ n → Low (w / 2) (count_trailing_zeros n (w / 2))) → Low w (under r (count_trailing_zeros n (w / 2)))
    go zero e ih = even_low w (count_trailing_zeros n (w / 2)) e p (ih (omega arith) (omega (arith, rw pow-suc at l)))
    go (suc zero) e ih = odd_low w e
    go (suc (suc r)) e ih = absurd (omega arith)

pub low_small : (w i : ℕ) → w < 2 ^ 64 → Low w i → i < 64
low_small w i l s = by_cases (dec_lt i 64) (λ b. b) (λ nb. absurd (omega (arith, bit_at_above w 64 i l (omega arith), s.here)))
