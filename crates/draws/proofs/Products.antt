-- The product modulo 2^64, by halves. Assumes nothing.
use Rattle.std.proofs.Common.{◌≡◌, ℕ, ◌+◌, ◌*◌, ◌/◌, ◌%◌, ◌^◌, ◌<◌, sym, ◌∙◌, ap₂, div-add-mod', arith}

-- a product of two halves fits
pub halves_fit : {x y : ℕ} → x < 2 ^ 32 → y < 2 ^ 32 → x * y < 2 ^ 64
halves_fit {x} {y} a b = grind arith

pub product_halves : (a b : ℕ)
    → (a % 2 ^ 32 * (b % 2 ^ 32) + (a / 2 ^ 32 * (b % 2 ^ 32) + a % 2 ^ 32 * (b / 2 ^ 32)) % 2 ^ 64 * 2 ^ 32 % 2 ^ 64) % 2 ^ 64 ≡ a * b % 2 ^ 64
product_halves a b =
    let x = a / 2 ^ 32 in
    let y = a % 2 ^ 32 in
    let u = b / 2 ^ 32 in
    let v = b % 2 ^ 32 in
    let whole : a * b ≡ x * u * (2 ^ 32 * 2 ^ 32) + (x * v + y * u) * 2 ^ 32 + y * v = ap₂ (λ (m n : ℕ). m * n) (sym (div-add-mod' a (2 ^ 32))) (sym (div-add-mod' b (2 ^ 32))) ∙ omega arith in
    omega (arith, whole)
