-- Masks as the code makes them: 1 << w less one. Assumes nothing.
use mathlib.Core.Path.{◌≡◌, ap, ◌∙◌}
use Prim.Native.Nat.{ℕ, ◌-◌, ◌*◌, ◌%◌, ◌^◌, ◌≤◌}
use native.Mathlib.Omega.{arith}
use native.Mathlib.Nat.{one-mul}
use lib.Dec.{lit<}
use lib.Pow.{shl_exact, pow_pos}
use lib.Bits.{bit_and, and_mask}

-- 1 << w, for a w below the word's width
pub shifted_one : (w : ℕ) → w ≤ 63 → 1 * 2 ^ w % 2 ^ 64 ≡ 2 ^ w
shifted_one w h = shl_exact 1 w 64 (lit< tt) (omega arith) ∙ one-mul (2 ^ w)

-- the mask is made without going below 0
pub mask_made : (w : ℕ) → w ≤ 63 → 1 ≤ 1 * 2 ^ w % 2 ^ 64
mask_made w h = rw (shifted_one w h) (pow_pos w)

-- what the mask leaves is the remainder
pub masked : (x w : ℕ) → w ≤ 63 → bit_and x (1 * 2 ^ w % 2 ^ 64 - 1) ≡ x % 2 ^ w
masked x w h = ap (λ (m : ℕ). bit_and x (m - 1)) (shifted_one w h) ∙ and_mask x w
