-- Laws of packed fields: how many bytes they take, that each is a byte, and that they hold the fields. Assumes nothing.
use mathlib.Core.Path.{◌≡◌, refl, sym, ap, ◌∙◌}
use mathlib.Core.Logic.{by_cases}
use mathlib.Core.List.{List, [], ◌∷◌, ◌++◌}
use Prim.Native.Nat.{ℕ, zero, suc, ◌+◌, ◌-◌, ◌*◌, ◌/◌, ◌%◌, ◌^◌, ◌≤◌, ◌<◌}
use native.Mathlib.Omega.{arith}
use native.Mathlib.Numerals.{add-one, one-add}
use native.Mathlib.Nat.{add-suc, add_assoc, zero-add, mod-lt, div-one, mod-eq_of_lt, zero-lt-suc, not-suc-le-zero, le_of_suc-le-suc}
use native.Mathlib.Decide.{dec_lt}
use lib.ListN.{length, get_or, drop, length-append, get_or-append, get_or-eq_default}
use lib.Seq.{get_or-drop, get_or-append-add}
use lib.Pow.{shr-shr}
use lib.Arith.{digits_div, digits_mod}
use Rattle.bits.specs.Bits.{bit_at, number, field_at}
use Rattle.bits.proofs.Reading.{number_ext, number_digits, number_lt}
use Rattle.packing.specs.Packing.{Bytes, Field, digits, bits, bytes_of, packed}
use Rattle.packing.specs.Holding.{span, Fit, Holds}

-- ---- a number made of binary digits

halved : (a b k : ℕ) → b < 2 → (a * 2 + b) / 2 ^ suc k ≡ a / 2 ^ k
halved a b k h = rw (← one-add k, ← shr-shr (a * 2 + b) 1 k, digits_div a h)

-- its digits are those that it was made of; k stand behind digit i
pub number_bit : (f : ℕ → ℕ) → ((i : ℕ) → f i < 2) → (i k : ℕ) → number f (i + suc k) / 2 ^ k % 2 ≡ f i
unfolding number
number_bit f b i zero = rw (add-one, div-one) (digits_mod (number f i) (b i))
number_bit f b i (suc k) = rw (add-suc i (suc k), halved (number f (i + suc k)) (f (i + suc k)) k (b (i + suc k))) (number_bit f b i k)

-- ---- the bits of fields

length_digits : (w v : ℕ) → length (digits w v) ≡ w
unfolding digits
length_digits zero v = refl
length_digits (suc w) v = ap suc (length_digits w v)

get_d_digits : (w v i : ℕ) → i < w → get_or (digits w v) i 0 ≡ v / 2 ^ (w - suc i) % 2
unfolding digits
get_d_digits zero v i h = absurd (not-suc-le-zero h)
get_d_digits (suc w) v zero h = ap (λ (e : ℕ). v / 2 ^ e % 2) (omega arith)
get_d_digits (suc w) v (suc i) h = get_d_digits w v i (le_of_suc-le-suc h) ∙ ap (λ (e : ℕ). v / 2 ^ e % 2) (omega arith)

length_bits : (fs : List Field) → length (bits fs) ≡ span fs
unfolding bits span
length_bits [] = refl
length_bits (f ∷ fs) = simp (length-append, length_digits, length_bits fs)

-- each is 0 or 1
append_bits : (w v : ℕ) (l : List ℕ) → ((i : ℕ) → get_or l i 0 < 2) → (i : ℕ) → get_or (digits w v ++ l) i 0 < 2
unfolding digits
append_bits zero v l b i = b i
append_bits (suc w) v l b zero = mod-lt (v / 2 ^ w) (zero-lt-suc 1)
append_bits (suc w) v l b (suc i) = append_bits w v l b i

bits_lt : (fs : List Field) (i : ℕ) → get_or (bits fs) i 0 < 2
unfolding bits
bits_lt [] i = zero-lt-suc 1
bits_lt (f ∷ fs) i = append_bits f.width f.value (bits fs) (bits_lt fs) i

-- ---- the bytes of a list of bits

length_bytes_of : (n : ℕ) (l : List ℕ) → length (bytes_of n l) ≡ n
unfolding bytes_of
length_bytes_of zero l = refl
length_bytes_of (suc n) l = ap suc (length_bytes_of n (drop 8 l))

get_d_bytes_of : (n : ℕ) (l : List ℕ) (j : ℕ) → j < n → get_or (bytes_of n l) j 0 ≡ number (λ i. get_or l (j * 8 + i) 0) 8
unfolding bytes_of
get_d_bytes_of zero l j h = absurd (not-suc-le-zero h)
get_d_bytes_of (suc n) l zero h = number_ext (λ i. get_or l i 0) (λ i. get_or l (0 * 8 + i) 0) 8 (λ i s. ap (λ (k : ℕ). get_or l k 0) (omega arith))
get_d_bytes_of (suc n) l (suc j) h =
    get_d_bytes_of n (drop 8 l) j (le_of_suc-le-suc h)
    ∙ number_ext (λ i. get_or (drop 8 l) (j * 8 + i) 0) (λ i. get_or l (suc j * 8 + i) 0) 8 (λ i s. get_or-drop 8 l (j * 8 + i) 0 ∙ ap (λ (k : ℕ). get_or l k 0) (omega arith))

-- the bytes have the bits that they were made of
bit_at_bytes_of : (n : ℕ) (l : List ℕ) → ((i : ℕ) → get_or l i 0 < 2) → (i : ℕ) → i < n * 8 → bit_at (bytes_of n l) i ≡ get_or l i 0
unfolding bit_at
bit_at_bytes_of n l b i h =
    let all : i % 8 + suc (7 - i % 8) ≡ 8 = omega arith in
    let place : i / 8 * 8 + i % 8 ≡ i = omega arith in
    let byte : ℕ → ℕ = λ k. get_or l (i / 8 * 8 + k) 0 in
    ap (λ (x : ℕ). x / 2 ^ (7 - i % 8) % 2) (get_d_bytes_of n l (i / 8) (omega arith) ∙ ap (number byte) (sym all))
    ∙ number_bit byte (λ k. b (i / 8 * 8 + k)) (i % 8) (7 - i % 8) ∙ ap (λ (k : ℕ). get_or l k 0) place

-- ---- packed fields

pub length_packed : (fs : List Field) → length (packed fs) ≡ (span fs + 7) / 8
unfolding packed
length_packed fs = length_bytes_of ((length (bits fs) + 7) / 8) (bits fs) ∙ ap (λ (n : ℕ). (n + 7) / 8) (length_bits fs)

pub packed_byte : (fs : List Field) → Bytes (packed fs)
unfolding packed
packed_byte fs j = by_cases (dec_lt j n)
    (λ s. rw (get_d_bytes_of n (bits fs) j s) (number_lt (λ i. get_or (bits fs) (j * 8 + i) 0) (λ i. bits_lt fs (j * 8 + i)) 8))
    (λ s. rw (get_or-eq_default (bytes_of n (bits fs)) 0 {n = j} (omega (arith, length_bytes_of n (bits fs)))) (zero-lt-suc 255))
  where
    n : ℕ
    n = (length (bits fs) + 7) / 8

-- up to the last byte they have the bits of the fields, and zeros behind those
bit_at_packed : (fs : List Field) (i : ℕ) → i < (span fs + 7) / 8 * 8 → bit_at (packed fs) i ≡ get_or (bits fs) i 0
unfolding packed
bit_at_packed fs i h = bit_at_bytes_of ((length (bits fs) + 7) / 8) (bits fs) (bits_lt fs) i (omega (arith, length_bits fs))

pub packed_fill : (fs : List Field) (i : ℕ) → span fs ≤ i → i < (span fs + 7) / 8 * 8 → bit_at (packed fs) i ≡ 0
packed_fill fs i s h = bit_at_packed fs i h ∙ get_or-eq_default (bits fs) 0 {n = i} (omega (arith, length_bits fs))

-- bytes that have the bits of the fields hold them
bits_hold : (bs : List ℕ) (q : ℕ) (fs : List Field) → Fit fs → ((i : ℕ) → i < span fs → bit_at bs (q + i) ≡ get_or (bits fs) i 0) → Holds bs q fs
unfolding Fit Holds span bits field_at
bits_hold bs q [] h e = tt
bits_hold bs q (f ∷ fs) h e = (
  number_ext (λ i. bit_at bs (q + i)) (λ i. f.value / 2 ^ (f.width - suc i) % 2) f.width own ∙ number_digits f.width f.value ∙ mod-eq_of_lt h.0,
  bits_hold bs (q + f.width) fs h.1 rest,
)
  where
    l : List ℕ
    l = digits f.width f.value

    wide : length l ≡ f.width
    wide = length_digits f.width f.value

    own : (i : ℕ) → i < f.width → bit_at bs (q + i) ≡ f.value / 2 ^ (f.width - suc i) % 2
    own i s = e i (omega arith) ∙ get_or-append l (bits fs) 0 i (omega (arith, wide)) ∙ get_d_digits f.width f.value i s

    rest : (i : ℕ) → i < span fs → bit_at bs (q + f.width + i) ≡ get_or (bits fs) i 0
    rest i s = rw (add_assoc q f.width i) (e (f.width + i) (omega arith) ∙ ap (λ (n : ℕ). get_or (l ++ bits fs) (n + i) 0) (sym wide) ∙ get_or-append-add l (bits fs) i 0)

pub packed_holds : (fs : List Field) → Fit fs → Holds (packed fs) 0 fs
packed_holds fs h = bits_hold (packed fs) 0 fs h (λ i s. ap (bit_at (packed fs)) (zero-add i) ∙ bit_at_packed fs i (omega arith))
