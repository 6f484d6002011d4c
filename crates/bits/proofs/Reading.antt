-- Laws of reading: a field is below 2 ^ w, adjacent fields join, a field lies inside a wider one, and eight bits at a byte are that byte.
-- Assumes nothing.
use mathlib.Core.Path.{◌≡◌, refl, sym, ap, ap₂, ◌∙◌}
use mathlib.Core.List.{List}
use Prim.Native.Nat.{ℕ, zero, suc, ◌+◌, ◌-◌, ◌*◌, ◌/◌, ◌%◌, ◌^◌, ◌<◌, ◌≤◌}
use native.Mathlib.Omega.{arith}
use native.Mathlib.Decide.{ℕ_discrete}
use native.Mathlib.Numerals.{add-one}
use native.Mathlib.Nat.{add-zero, add-suc, add_assoc, mul_assoc, mul-one, mod-one, mod-lt, div-one, mod-eq_of_lt, pow-suc, zero-lt-suc, lt_of_lt_of_le}
use lib.ListN.{get_or, take, drop}
use lib.Seq.{get_or-take, get_or-drop}
use lib.Pow.{pow_mono, shr-shr, mod-pow-add, high, low}
use lib.Arith.{digits_lt}
use Rattle.bits.specs.Bits.{bit_at, number, field_at}

pub number_ext : (f g : ℕ → ℕ) (w : ℕ) → ((i : ℕ) → i < w → f i ≡ g i) → number f w ≡ number g w
unfolding number
number_ext f g zero h = refl
number_ext f g (suc w) h = ap₂ (λ (a b : ℕ). a * 2 + b) (number_ext f g w (λ i l. h i (omega arith))) (h w (omega arith))

-- the digits of v / 2 are those of v without the last
pub halve : (v w i : ℕ) → i < w → v / 2 ^ (suc w - suc i) ≡ v / 2 / 2 ^ (w - suc i)
halve v w i h = ap (λ (e : ℕ). v / 2 ^ e) one_more ∙ sym (shr-shr v 1 (w - suc i))
  where
    one_more : suc w - suc i ≡ 1 + (w - suc i)
    one_more = omega arith

-- the number of the w low digits of v
pub number_digits : (w v : ℕ) → number (λ i. v / 2 ^ (w - suc i) % 2) w ≡ v % 2 ^ w
unfolding number
number_digits zero v = sym (mod-one v)
number_digits (suc w) v =
    ap₂ (λ (a b : ℕ). a * 2 + b)
    (number_ext (λ i. v / 2 ^ (suc w - suc i) % 2) (λ i. v / 2 / 2 ^ (w - suc i) % 2) w (λ i h. ap (λ (x : ℕ). x % 2) (halve v w i h)) ∙ number_digits w (v / 2))
    last
    ∙ sym (mod-pow-add v w 1) ∙ ap (λ (e : ℕ). v % 2 ^ e) (add-one w)
  where
    none : suc w - suc w ≡ 0
    none = omega arith

    last : v / 2 ^ (suc w - suc w) % 2 ≡ v % 2
    last = ap (λ (e : ℕ). v / 2 ^ e % 2) none ∙ ap (λ (x : ℕ). x % 2) (div-one v)

-- ---- a field is below 2 ^ w

pub bit_at_lt : (bs : List ℕ) (i : ℕ) → bit_at bs i < 2
unfolding bit_at
bit_at_lt bs i = mod-lt (get_or bs (i / 8) 0 / 2 ^ (7 - i % 8)) (zero-lt-suc 1)

-- a number made of binary digits
pub number_lt : (f : ℕ → ℕ) → ((i : ℕ) → f i < 2) → (w : ℕ) → number f w < 2 ^ w
unfolding number
number_lt f b zero = zero-lt-suc 0
number_lt f b (suc w) = rw pow-suc (digits_lt (number_lt f b w) (b w))

pub field_at_lt : (bs : List ℕ) (p w : ℕ) → field_at bs p w < 2 ^ w
unfolding field_at
field_at_lt bs p w = number_lt (λ i. bit_at bs (p + i)) (λ i. bit_at_lt bs (p + i)) w

-- a number that is a field of at most k bits is below 2 ^ k
pub field_at_below : (bs : List ℕ) (p w k : ℕ) {v : ℕ} → v ≡ field_at bs p w → w ≤ k → v < 2 ^ k
field_at_below bs p w k e h = rw e (lt_of_lt_of_le (field_at_lt bs p w) (pow_mono h))

-- ---- adjacent fields

-- two adjacent fields are the field of their joint width
pub field_at_join : (bs : List ℕ) (p a b : ℕ) → field_at bs p (a + b) ≡ field_at bs p a * 2 ^ b + field_at bs (p + a) b
unfolding field_at number
field_at_join bs p a zero = rw (add-zero a) (sym (add-zero (number (λ i. bit_at bs (p + i)) a * 1) ∙ mul-one (number (λ i. bit_at bs (p + i)) a)))
field_at_join bs p a (suc b) =
    let x : ℕ = number (λ i. bit_at bs (p + i)) a in
    let y : ℕ = number (λ i. bit_at bs (p + a + i)) b in
    rw (add-suc a b, field_at_join bs p a b, add_assoc p a b, pow-suc 2 b)
    (omega (arith, mul_assoc x (2 ^ b) 2))

-- a field inside a wider one, which has a bits before it and c bits after it
pub field_at_inside : (bs : List ℕ) (p a w c : ℕ) → field_at bs p (a + w + c) / 2 ^ c % 2 ^ w ≡ field_at bs (p + a) w
field_at_inside bs p a w c =
    ap (λ (x : ℕ). x / 2 ^ c % 2 ^ w) (field_at_join bs p (a + w) c)
    ∙ ap (λ (x : ℕ). x % 2 ^ w) (high (field_at bs p (a + w)) c (field_at_lt bs (p + (a + w)) c) ∙ field_at_join bs p a w)
    ∙ low (field_at bs p a) w (field_at_lt bs (p + a) w)

-- a field of up to 25 bits lies inside the 32 bits that start at its first byte
pub field_at_window : (bs : List ℕ) (p w : ℕ) {v : ℕ} → w ≤ 25 → v ≡ field_at bs (p / 8 * 8) 32 → v / 2 ^ (32 - p % 8 - w) % 2 ^ w ≡ field_at bs p w
field_at_window bs p w h e =
    let wide : p % 8 + w + (32 - p % 8 - w) ≡ 32 = omega arith in
    let place : p / 8 * 8 + p % 8 ≡ p = omega arith in
    ap (λ (x : ℕ). x / 2 ^ (32 - p % 8 - w) % 2 ^ w) (e ∙ ap (field_at bs (p / 8 * 8)) (sym wide))
    ∙ field_at_inside bs (p / 8 * 8) (p % 8) w (32 - p % 8 - w) ∙ ap (λ (q : ℕ). field_at bs q w) place

-- ---- whole bytes

-- eight bits from a byte's first on are the byte
pub field_at_byte : (bs : List ℕ) (k : ℕ) → get_or bs k 0 < 256 → field_at bs (k * 8) 8 ≡ get_or bs k 0
unfolding field_at bit_at
field_at_byte bs k h =
    number_ext (λ i. get_or bs ((k * 8 + i) / 8) 0 / 2 ^ (7 - (k * 8 + i) % 8) % 2) (λ i. get_or bs k 0 / 2 ^ (8 - suc i) % 2) 8 digit
    ∙ number_digits 8 (get_or bs k 0) ∙ mod-eq_of_lt h
  where
    digit : (i : ℕ) → i < 8 → get_or bs ((k * 8 + i) / 8) 0 / 2 ^ (7 - (k * 8 + i) % 8) % 2 ≡ get_or bs k 0 / 2 ^ (8 - suc i) % 2
    digit i l =
        let byte : (k * 8 + i) / 8 ≡ k = omega arith in
        let place : 7 - (k * 8 + i) % 8 ≡ 8 - suc i = omega arith in
        ap₂ (λ (j e : ℕ). get_or bs j 0 / 2 ^ e % 2) byte place

-- one byte more behind i of them
pub field_at_more : (bs : List ℕ) (k i : ℕ) → get_or bs (k + i) 0 < 256 → field_at bs (k * 8) ((i + 1) * 8) ≡ field_at bs (k * 8) (i * 8) * 256 + get_or bs (k + i) 0
field_at_more bs k i h =
    let width : (i + 1) * 8 ≡ i * 8 + 8 = omega arith in
    let place : k * 8 + i * 8 ≡ (k + i) * 8 = omega arith in
    rw (width, field_at_join bs (k * 8) (i * 8) 8, place, field_at_byte bs (k + i) h)

-- two, three and four bytes
module _ (bs : List ℕ) (k : ℕ) (small : (j : ℕ) → get_or bs j 0 < 256) where
  pub field_at_two : field_at bs (k * 8) 16 ≡ get_or bs k 0 * 2 ^ 8 + get_or bs (k + 1) 0
  field_at_two = omega (arith, field_at_byte bs k (small k), field_at_more bs k 1 (small (k + 1)))

  pub field_at_three : field_at bs (k * 8) 24 ≡ get_or bs k 0 * 2 ^ 16 + get_or bs (k + 1) 0 * 2 ^ 8 + get_or bs (k + 2) 0
  field_at_three = omega (arith, field_at_two, field_at_more bs k 2 (small (k + 2)))

  pub field_at_four : field_at bs (k * 8) 32 ≡ get_or bs k 0 * 2 ^ 24 + get_or bs (k + 1) 0 * 2 ^ 16 + get_or bs (k + 2) 0 * 2 ^ 8 + get_or bs (k + 3) 0
  field_at_four = omega (arith, field_at_three, field_at_more bs k 3 (small (k + 3)))

-- a field of the s bytes from byte t on is a field of all of them
pub field_at_part : (bs : List ℕ) (t s p w : ℕ) → p + w ≤ s * 8 → field_at (take s (drop t bs)) p w ≡ field_at bs (t * 8 + p) w
unfolding field_at bit_at
field_at_part bs t s p w h =
    number_ext _ _ w
    (λ i l.
    let inside : (p + i) / 8 < s = omega arith in
    let byte : t + (p + i) / 8 ≡ (t * 8 + p + i) / 8 = omega arith in
    let place : (p + i) % 8 ≡ (t * 8 + p + i) % 8 = omega arith in
    rw (get_or-take s (drop t bs) ((p + i) / 8) 0 inside, get_or-drop t bs ((p + i) / 8) 0, byte, place))

-- ---- a field is 0 exactly where its bits are

pub field_at_zeros : (bs : List ℕ) (p w : ℕ) → field_at bs p w ≡ 0 → (i : ℕ) → i < w → bit_at bs (p + i) ≡ 0
unfolding field_at number
field_at_zeros bs p zero e i h = absurd (omega arith)
field_at_zeros bs p (suc w) e i h = go (ℕ_discrete i w) (λ l. field_at_zeros bs p w (omega (arith, e)) i l)
  where
    go : Dec (i ≡ w) → (i < w → bit_at bs (p + i) ≡ 0) → bit_at bs (p + i) ≡ 0
    go (yes q) ih = ap (λ (j : ℕ). bit_at bs (p + j)) q ∙ omega (arith, e)
    go (no q) ih = ih (omega arith)

pub zeros_field_at : (bs : List ℕ) (p w : ℕ) → ((i : ℕ) → i < w → bit_at bs (p + i) ≡ 0) → field_at bs p w ≡ 0
unfolding field_at number
zeros_field_at bs p zero h = refl
zeros_field_at bs p (suc w) h = omega (arith, zeros_field_at bs p w (λ i l. h i (omega arith)), h w (omega arith))
