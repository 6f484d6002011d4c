-- The byte that the code makes is the one of the specification.
use Rattle.std.proofs.Common.{◌≡◌, ℕ, ◌+◌, ◌-◌, ◌*◌, ◌/◌, ◌%◌, ◌^◌, ◌<◌, ◌≤◌, sym, ap, ap₂, ◌∙◌, get_or, set, arith}
use native.Mathlib.Nat.{mod-eq_of_lt}
use lib.Bits.{bit_and}
use Rattle.bits.proofs.Masks.{masked}
use Rattle.bits.proofs.Writing.{patched, digits_le, shifted_digits, patched_byte, put_field_byte}
use Rattle.bits.proofs.put_in_byte.Goals as goal

-- the mask as the code makes it
abbrev mask : ℕ → ℕ
mask w = 1 * 2 ^ w % 2 ^ 64 - 1

-- digits that are masked and shifted to their place
placed : (x k w : ℕ) → k + w ≤ 8 → bit_and x (mask w) * 2 ^ k % 2 ^ 64 ≡ x % 2 ^ w * 2 ^ k
placed x k w h = ap (λ (z : ℕ). z * 2 ^ k % 2 ^ 64) (masked x w (omega arith)) ∙ shifted_digits x k w h

-- the byte that the code makes is the one of the specification
coded : (b k w v : ℕ) → k + w ≤ 8 → b - bit_and (b / 2 ^ k) (mask w) * 2 ^ k % 2 ^ 64 + bit_and v (mask w) * 2 ^ k % 2 ^ 64 ≡ patched b k w v
unfolding patched
coded b k w v h = ap₂ (λ (x y : ℕ). b - x + y) (placed (b / 2 ^ k) k w h) (placed v k w h)

pub overflow_sub-new : goal.overflow_sub-new
overflow_sub-new c =
    let b : ℕ = c.from-b.result in
    let k : ℕ = 8 - c.args.p % 8 - c.args.w in
    rw (placed (b / 2 ^ k) k c.args.w (omega arith)) (digits_le b k c.args.w)

pub returns : goal.returns
returns c =
    let b : ℕ = get_or c.args.s.now (c.args.p / 8) 0 in
    let k : ℕ = 8 - c.args.p % 8 - c.args.w in
    let made = coded b k c.args.w c.args.v (omega arith) in
    let small : b < 256 = omega (arith, c.from-b.ensures) in
    let byte : patched b k c.args.w c.args.v < 256 = patched_byte b k c.args.w c.args.v small (omega arith) in
    rw c.from-b.ensures
    (ap (set c.args.s.now (c.args.p / 8)) (ap (λ (z : ℕ). z % 256) made ∙ mod-eq_of_lt byte)
    ∙ sym (put_field_byte c.args.s.now c.args.p c.args.w c.args.v c.requires.0 c.requires.1))
