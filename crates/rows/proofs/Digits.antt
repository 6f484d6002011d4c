-- The operators on words at each digit, which is 0 or 1, and the word with one digit. Assumes nothing.
use mathlib.Core.Bool.{not, ◌&&◌, ◌||◌, xor}
use mathlib.Core.Path.{◌≡◌, ◌∙◌}
use mathlib.Core.Logic.{by_cases}
use Prim.Native.Nat.{ℕ, ◌*◌, ◌%◌, ◌^◌, ◌<◌}
use native.Mathlib.Omega.{arith}
use native.Mathlib.Decide.{ℕ_discrete}
use native.Mathlib.Nat.{one-mul}
use lib.Bits.{bit_and, bit_or, bit_xor}
use lib.Dec.{eqb, lit<}
use lib.Pow.{shl_exact}
use Rattle.std.specs.Int.{w64, bit_at, bit_not}
use Rattle.std.proofs.lemmas.Bool.Decides.{nat_tests}
use Rattle.std.proofs.lemmas.Nat.Bits.{bit_at_and, bit_at_or, bit_at_xor, bit_at_not, bit_at-lt, bit_at-pow_same, bit_at-pow_other}

pub digit_and : (a b i : ℕ) → eqb (bit_at (bit_and a b) i) 1 ≡ (eqb (bit_at a i) 1 && eqb (bit_at b i) 1)
digit_and a b i = grind (arith, nat_tests, bit_at_and a b i, bit_at-lt)

pub digit_or : (a b i : ℕ) → eqb (bit_at (bit_or a b) i) 1 ≡ (eqb (bit_at a i) 1 || eqb (bit_at b i) 1)
digit_or a b i = grind (arith, nat_tests, bit_at_or a b i, bit_at-lt)

pub digit_xor : (a b i : ℕ) → eqb (bit_at (bit_xor a b) i) 1 ≡ xor (eqb (bit_at a i) 1) (eqb (bit_at b i) 1)
unfolding xor
digit_xor a b i = grind (arith, nat_tests, bit_at_xor a b i, bit_at-lt)

pub digit_not : (w i : ℕ) → w < 2 ^ 64 → i < 64 → eqb (bit_at (bit_not w64 w) i) 1 ≡ not (eqb (bit_at w i) 1)
digit_not w i small h = grind (arith, nat_tests, bit_at_not w64 w i small h, bit_at-lt)

-- the machine's 1 << k has the digit k and no other
pub digit_shifted : (k i : ℕ) → k < 64 → eqb (bit_at (1 * 2 ^ k % 2 ^ 64) i) 1 ≡ eqb i k
digit_shifted k i l =
    let power : 1 * 2 ^ k % 2 ^ 64 ≡ 2 ^ k = shl_exact 1 k 64 (lit< tt) (omega arith) ∙ one-mul (2 ^ k) in
    rw power (by_cases (ℕ_discrete i k) (λ e. rw e (grind (arith, nat_tests, bit_at-pow_same k))) (λ ne. grind (arith, nat_tests, bit_at-pow_other k i ne)))
