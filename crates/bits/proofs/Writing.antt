-- Laws of writing: what is written reads back, every other bit stays, adjacent writes join, and a write inside a byte changes that byte alone.
-- Assumes nothing.
use mathlib.Core.Path.{◌≡◌, refl, sym, ap, ap₂, ◌∙◌, subst}
use mathlib.Core.Logic.{◌⊎◌, inl, inr, ◌≢◌}
use mathlib.Core.List.{List}
use Prim.Native.Nat.{ℕ, zero, suc, ◌+◌, ◌-◌, ◌*◌, ◌/◌, ◌%◌, ◌^◌, ◌<◌, ◌≤◌}
use native.Mathlib.Omega.{arith}
use native.Mathlib.Nat.{add-mul, add_assoc, add-zero, add-suc, mul_assoc, zero-mul, mod-one, mod-lt, mod-eq_of_lt, mod-le, div-one, zero-lt-suc, le_trans, mul-le-mul_right, div-mul-le_self}
use native.Mathlib.Decide.{dec_lt, ℕ_discrete}
use native.Mathlib.Numerals.{add-one, one-add}
use lib.ListN.{length, get_or, set, length-set}
use lib.Seq.{get_or-set_same, get_or-set_other, set-set, set-get_or}
use lib.Pow.{pow_pos, pow-add, shr-shr, shr_lt, shl_exact, field, mod-mod-pow, mod-pow-add, split}
use lib.Arith.{digits_div, digits_mod, digits_lt}
use Rattle.bits.specs.Bits.{bit_at, field_at, set_bit, put_field}
use Rattle.bits.proofs.Reading.{number_ext, number_digits, halve}

-- the number b with the w digits from 2 ^ k on replaced by those of v
unfoldable pub patched : ℕ → ℕ → ℕ → ℕ → ℕ
patched b k w v = b - b / 2 ^ k % 2 ^ w * 2 ^ k + v % 2 ^ w * 2 ^ k

-- what stands above the digits, the digits, and what stands below them
pub patched_split : (b k w v : ℕ) → patched b k w v ≡ (b / 2 ^ k / 2 ^ w * 2 ^ w + v % 2 ^ w) * 2 ^ k + b % 2 ^ k
unfolding patched
patched_split b k w v =
    let P : ℕ = 2 ^ k in
    let Q : ℕ = 2 ^ w in
    let q : ℕ = b / P / Q * Q in
    let whole : b ≡ (q + b / P % Q) * P + b % P = sym (ap (λ (z : ℕ). z * P + b % P) (split (b / P) w) ∙ split b k) in
    let old : (q + b / P % Q) * P ≡ q * P + b / P % Q * P = add-mul q (b / P % Q) P in
    let new : (q + v % Q) * P ≡ q * P + v % Q * P = add-mul q (v % Q) P in
    omega arith

pub patched_high : (b k w v : ℕ) → patched b k w v / 2 ^ k ≡ b / 2 ^ k / 2 ^ w * 2 ^ w + v % 2 ^ w
patched_high b k w v = ap (λ (z : ℕ). z / 2 ^ k) (patched_split b k w v) ∙ digits_div (b / 2 ^ k / 2 ^ w * 2 ^ w + v % 2 ^ w) (mod-lt b (pow_pos k))

pub patched_low : (b k w v : ℕ) → patched b k w v % 2 ^ k ≡ b % 2 ^ k
patched_low b k w v = ap (λ (z : ℕ). z % 2 ^ k) (patched_split b k w v) ∙ digits_mod (b / 2 ^ k / 2 ^ w * 2 ^ w + v % 2 ^ w) (mod-lt b (pow_pos k))

-- the digits that were replaced
patched_same : (b k w v : ℕ) → patched b k w v / 2 ^ k % 2 ^ w ≡ v % 2 ^ w
patched_same b k w v = ap (λ (z : ℕ). z % 2 ^ w) (patched_high b k w v) ∙ digits_mod (b / 2 ^ k / 2 ^ w) (mod-lt v (pow_pos w))

-- a digit below them
patched_below : (b k w v m : ℕ) → m < k → patched b k w v / 2 ^ m % 2 ≡ b / 2 ^ m % 2
patched_below b k w v m h = sym (field (patched b k w v) 1 m) ∙ ap (λ (z : ℕ). z / 2 ^ m) same ∙ field b 1 m
  where
    rest : k - suc m + (1 + m) ≡ k
    rest = omega arith

    down : (n : ℕ) → n % 2 ^ (1 + m) ≡ n % 2 ^ k % 2 ^ (1 + m)
    down n = sym (mod-mod-pow n (k - suc m) (1 + m)) ∙ ap (λ (z : ℕ). n % 2 ^ z % 2 ^ (1 + m)) rest

    same : patched b k w v % 2 ^ (1 + m) ≡ b % 2 ^ (1 + m)
    same = down (patched b k w v) ∙ ap (λ (z : ℕ). z % 2 ^ (1 + m)) (patched_low b k w v) ∙ sym (down b)

-- a digit above them
patched_above : (b k w v m : ℕ) → k + w ≤ m → patched b k w v / 2 ^ m % 2 ≡ b / 2 ^ m % 2
patched_above b k w v m h = ap (λ (z : ℕ). z % 2) (up (patched b k w v) ∙ ap (λ (z : ℕ). z / 2 ^ (m - (k + w))) same ∙ sym (up b))
  where
    rest : m ≡ k + w + (m - (k + w))
    rest = omega arith

    up : (n : ℕ) → n / 2 ^ m ≡ n / 2 ^ k / 2 ^ w / 2 ^ (m - (k + w))
    up n = ap (λ (z : ℕ). n / 2 ^ z) rest ∙ sym (shr-shr n (k + w) (m - (k + w))) ∙ ap (λ (z : ℕ). z / 2 ^ (m - (k + w))) (sym (shr-shr n k w))

    same : patched b k w v / 2 ^ k / 2 ^ w ≡ b / 2 ^ k / 2 ^ w
    same = ap (λ (z : ℕ). z / 2 ^ w) (patched_high b k w v) ∙ digits_div (b / 2 ^ k / 2 ^ w) (mod-lt v (pow_pos w))

-- digits replaced above, and then those just below them, are the digits of the joint width
patched_join : (b k w a v : ℕ) → patched (patched b (k + a) w (v / 2 ^ a)) k a v ≡ patched b k (w + a) v
patched_join b k w a v =
    let y : ℕ = patched b (k + a) w (v / 2 ^ a) in
    let top : ℕ = b / 2 ^ (k + a) / 2 ^ w in
    let high : y / 2 ^ k / 2 ^ a ≡ top * 2 ^ w + v / 2 ^ a % 2 ^ w = shr-shr y k a ∙ patched_high b (k + a) w (v / 2 ^ a) in
    let lows : y % 2 ^ k ≡ b % 2 ^ k = down y ∙ ap (λ (z : ℕ). z % 2 ^ k) (patched_low b (k + a) w (v / 2 ^ a)) ∙ sym (down b) in
    let above : b / 2 ^ k / 2 ^ (w + a) ≡ top = shr-shr b k (w + a) ∙ ap (λ (z : ℕ). b / 2 ^ z) joint ∙ sym (shr-shr b (k + a) w) in
    let spread : (top * 2 ^ w + v / 2 ^ a % 2 ^ w) * 2 ^ a ≡ top * 2 ^ (w + a) + v / 2 ^ a % 2 ^ w * 2 ^ a =
    add-mul (top * 2 ^ w) (v / 2 ^ a % 2 ^ w) (2 ^ a) ∙ ap (λ (z : ℕ). z + v / 2 ^ a % 2 ^ w * 2 ^ a) (mul_assoc top (2 ^ w) (2 ^ a) ∙ ap (λ (z : ℕ). top * z) (sym (pow-add 2 w a))) in
    let digits : (top * 2 ^ w + v / 2 ^ a % 2 ^ w) * 2 ^ a + v % 2 ^ a ≡ b / 2 ^ k / 2 ^ (w + a) * 2 ^ (w + a) + v % 2 ^ (w + a) =
    ap (λ (z : ℕ). z + v % 2 ^ a) spread ∙ add_assoc (top * 2 ^ (w + a)) (v / 2 ^ a % 2 ^ w * 2 ^ a) (v % 2 ^ a)
    ∙ ap₂ (λ (x z : ℕ). x * 2 ^ (w + a) + z) (sym above) (sym (mod-pow-add v w a)) in
    patched_split y k a v ∙ ap₂ (λ (x z : ℕ). (x * 2 ^ a + v % 2 ^ a) * 2 ^ k + z) high lows ∙ ap (λ (x : ℕ). x * 2 ^ k + b % 2 ^ k) digits ∙ sym (patched_split b k (w + a) v)
  where
    joint : k + (w + a) ≡ k + a + w
    joint = omega arith

    swap : a + k ≡ k + a
    swap = omega arith

    down : (n : ℕ) → n % 2 ^ k ≡ n % 2 ^ (k + a) % 2 ^ k
    down n = sym (mod-mod-pow n a k) ∙ ap (λ (z : ℕ). n % 2 ^ z % 2 ^ k) swap

-- ---- a bit of the bytes

-- a bit that is set is one digit of its byte
set_bit_patched : (bs : List ℕ) (i x : ℕ) → x < 2 → set_bit bs i x ≡ set bs (i / 8) (patched (get_or bs (i / 8) 0) (7 - i % 8) 1 x)
unfolding set_bit bit_at patched
set_bit_patched bs i x h = rw (mod-eq_of_lt h)

set_bit_same : (bs : List ℕ) (i x : ℕ) → i < length bs * 8 → x < 2 → bit_at (set_bit bs i x) i ≡ x
unfolding bit_at
set_bit_same bs i x h hx =
    let b : ℕ = get_or bs (i / 8) 0 in
    rw (set_bit_patched bs i x hx, get_or-set_same bs (i / 8) (patched b (7 - i % 8) 1 x) 0 (omega arith)) (patched_same b (7 - i % 8) 1 x ∙ mod-eq_of_lt hx)

set_bit_other : (bs : List ℕ) (i j x : ℕ) → i < length bs * 8 → x < 2 → j ≢ i → bit_at (set_bit bs i x) j ≡ bit_at bs j
unfolding bit_at
set_bit_other bs i j x h hx ne = rw (set_bit_patched bs i x hx) (go (ℕ_discrete (j / 8) (i / 8)))
  where
    k : ℕ
    k = 7 - i % 8

    b : ℕ
    b = get_or bs (i / 8) 0

    digit : Dec (7 - j % 8 < k) → j / 8 ≡ i / 8 → patched b k 1 x / 2 ^ (7 - j % 8) % 2 ≡ b / 2 ^ (7 - j % 8) % 2
    digit (yes l) e = patched_below b k 1 x (7 - j % 8) l
    digit (no l) e = patched_above b k 1 x (7 - j % 8) (above (ℕ_discrete (7 - j % 8) k))
      where
        above : Dec (7 - j % 8 ≡ k) → k + 1 ≤ 7 - j % 8
        above (yes q) = absurd (ne (omega arith))
        above (no q) = omega arith

    go : Dec (j / 8 ≡ i / 8) → get_or (set bs (i / 8) (patched b k 1 x)) (j / 8) 0 / 2 ^ (7 - j % 8) % 2 ≡ get_or bs (j / 8) 0 / 2 ^ (7 - j % 8) % 2
    go (yes e) = rw (e, get_or-set_same bs (i / 8) (patched b k 1 x) 0 (omega arith)) (digit (dec_lt (7 - j % 8) k) e)
    go (no n) = rw (get_or-set_other bs (i / 8) (j / 8) (patched b k 1 x) 0 n)

length_set_bit : (bs : List ℕ) (i x : ℕ) → length (set_bit bs i x) ≡ length bs
unfolding set_bit
length_set_bit bs i x = length-set bs (i / 8) _

-- ---- a field of the bytes

pub length_put_field : (bs : List ℕ) (p w v : ℕ) → length (put_field bs p w v) ≡ length bs
unfolding put_field
length_put_field bs p zero v = refl
length_put_field bs p (suc w) v = length_set_bit (put_field bs p w (v / 2)) (p + w) (v % 2) ∙ length_put_field bs p w (v / 2)

pub put_field_zero : (bs : List ℕ) (p v : ℕ) → put_field bs p 0 v ≡ bs
unfolding put_field
put_field_zero bs p v = refl

-- every other bit stays
pub put_field_out : (bs : List ℕ) (p w v j : ℕ) → p + w ≤ length bs * 8 → (j < p) ⊎ (p + w ≤ j) → bit_at (put_field bs p w v) j ≡ bit_at bs j
unfolding put_field
put_field_out bs p zero v j h o = refl
put_field_out bs p (suc w) v j h o =
    set_bit_other (put_field bs p w (v / 2)) (p + w) j (v % 2) (omega (arith, length_put_field bs p w (v / 2))) (mod-lt v (zero-lt-suc 1)) (ne o)
    ∙ put_field_out bs p w (v / 2) j (omega arith) (out o)
  where
    ne : (j < p) ⊎ (p + suc w ≤ j) → j ≢ p + w
    ne (inl s) e = absurd (omega arith)
    ne (inr s) e = absurd (omega arith)

    out : (j < p) ⊎ (p + suc w ≤ j) → (j < p) ⊎ (p + w ≤ j)
    out (inl s) = inl s
    out (inr s) = inr (omega arith)

-- a bit of the field is the value's
pub put_field_in : (bs : List ℕ) (p w v i : ℕ) → p + w ≤ length bs * 8 → i < w → bit_at (put_field bs p w v) (p + i) ≡ v / 2 ^ (w - suc i) % 2
unfolding put_field
put_field_in bs p zero v i h s = absurd (omega arith)
put_field_in bs p (suc w) v i h s = go (ℕ_discrete i w) (λ l. put_field_in bs p w (v / 2) i (omega arith) l)
  where
    fits : p + w < length (put_field bs p w (v / 2)) * 8
    fits = omega (arith, length_put_field bs p w (v / 2))

    low : v % 2 < 2
    low = mod-lt v (zero-lt-suc 1)

    go : Dec (i ≡ w) → (i < w → bit_at (put_field bs p w (v / 2)) (p + i) ≡ v / 2 / 2 ^ (w - suc i) % 2)
        → bit_at (set_bit (put_field bs p w (v / 2)) (p + w) (v % 2)) (p + i) ≡ v / 2 ^ (suc w - suc i) % 2
    go (yes e) ih =
        ap (λ (z : ℕ). bit_at (set_bit (put_field bs p w (v / 2)) (p + w) (v % 2)) (p + z)) e ∙ set_bit_same (put_field bs p w (v / 2)) (p + w) (v % 2) fits low
        ∙ ap (λ (z : ℕ). z % 2) (sym (div-one v)) ∙ ap (λ (z : ℕ). v / 2 ^ z % 2) last
      where
        last : 0 ≡ suc w - suc i
        last = omega arith
    go (no n) ih =
        set_bit_other (put_field bs p w (v / 2)) (p + w) (p + i) (v % 2) fits low (λ q. n (omega arith)) ∙ ih (omega arith) ∙ ap (λ (z : ℕ). z % 2) (sym (halve v w i (omega arith)))

-- what is written reads back
pub field_put : (bs : List ℕ) (p w v : ℕ) → p + w ≤ length bs * 8 → field_at (put_field bs p w v) p w ≡ v % 2 ^ w
unfolding field_at
field_put bs p w v h =
    number_ext (λ i. bit_at (put_field bs p w v) (p + i)) (λ i. v / 2 ^ (w - suc i) % 2) w (λ i s. put_field_in bs p w v i h s) ∙ number_digits w v

-- a field beside it reads as before
pub field_put_other : (bs : List ℕ) (p w v q u : ℕ) → p + w ≤ length bs * 8 → (q + u ≤ p) ⊎ (p + w ≤ q) → field_at (put_field bs p w v) q u ≡ field_at bs q u
unfolding field_at
field_put_other bs p w v q u h o = number_ext (λ i. bit_at (put_field bs p w v) (q + i)) (λ i. bit_at bs (q + i)) u (λ i s. put_field_out bs p w v (q + i) h (beside i s o))
  where
    beside : (i : ℕ) → i < u → (q + u ≤ p) ⊎ (p + w ≤ q) → (q + i < p) ⊎ (p + w ≤ q + i)
    beside i s (inl l) = inl (omega arith)
    beside i s (inr l) = inr (omega arith)

-- two adjacent fields are written as the field of their joint width
pub put_field_join : (bs : List ℕ) (p a b v : ℕ) → put_field bs p (a + b) v ≡ put_field (put_field bs p a (v / 2 ^ b)) (p + a) b v
unfolding put_field
put_field_join bs p a zero v = rw (add-zero, div-one)
put_field_join bs p a (suc b) v = rw (add-suc a b, put_field_join bs p a b (v / 2), add_assoc p a b, halved)
  where
    halved : v / 2 / 2 ^ b ≡ v / 2 ^ suc b
    halved = shr-shr v 1 b ∙ ap (λ (e : ℕ). v / 2 ^ e) (one-add b)

-- a field that lies in one byte changes the digits of that byte alone
pub put_field_byte : (bs : List ℕ) (p w v : ℕ) → p / 8 < length bs → p % 8 + w ≤ 8 → put_field bs p w v ≡ set bs (p / 8) (patched (get_or bs (p / 8) 0) (8 - p % 8 - w) w v)
unfolding put_field patched
put_field_byte bs p zero v h l = rw (mod-one, mod-one, zero-mul) (sym (ap (set bs (p / 8)) same ∙ set-get_or bs (p / 8) 0))
  where
    same : get_or bs (p / 8) 0 - 0 + 0 ≡ get_or bs (p / 8) 0
    same = omega arith
put_field_byte bs p (suc w) v h l =
    ap (λ (z : List ℕ). set_bit z (p + w) (v % 2)) (put_field_byte bs p w (v / 2) h (omega arith) ∙ ap (λ (k : ℕ). set bs j (patched b k w (v / 2))) up)
    ∙ set_bit_patched (set bs j y) (p + w) (v % 2) (mod-lt v (zero-lt-suc 1))
    ∙ ap₂ (λ (i k : ℕ). set (set bs j y) i (patched (get_or (set bs j y) i 0) k 1 (v % 2))) byte place
    ∙ set-set bs j y (patched (get_or (set bs j y) j 0) t 1 (v % 2))
    ∙ ap (λ (z : ℕ). set bs j (patched z t 1 (v % 2))) (get_or-set_same bs j y 0 h)
    ∙ ap (set bs j) (last ∙ patched_join b t w 1 v ∙ ap (λ (k : ℕ). patched b t k v) (add-one w))
  where
    j : ℕ
    j = p / 8

    b : ℕ
    b = get_or bs (p / 8) 0

    t : ℕ
    t = 8 - p % 8 - suc w

    y : ℕ
    y = patched b (t + 1) w (v / 2)

    up : 8 - p % 8 - w ≡ t + 1
    up = omega arith

    byte : (p + w) / 8 ≡ j
    byte = omega arith

    place : 7 - (p + w) % 8 ≡ t
    place = omega arith

    last : patched y t 1 (v % 2) ≡ patched y t 1 v
    last = ap (λ (x : ℕ). y - y / 2 ^ t % 2 ^ 1 * 2 ^ t + x * 2 ^ t) (mod-eq_of_lt (mod-lt v (zero-lt-suc 1)))

-- ---- a field written by chunks, and a byte made by shifts

-- of the w digits of v, done are written, and the next n are written behind them, so that some are left
pub put_field_chunk : (bs : List ℕ) (p w v done at n left : ℕ) {s : List ℕ} → s ≡ put_field bs p done (v / 2 ^ (w - done)) → at ≡ p + done → done + n + left ≡ w
    → put_field s at n (v / 2 ^ left) ≡ put_field bs p (done + n) (v / 2 ^ (w - (done + n)))
put_field_chunk bs p w v done at n left {s} e f g =
    let more : w - done ≡ left + n = omega arith in
    let rest : left ≡ w - (done + n) = omega arith in
    let digits : v / 2 ^ (w - done) ≡ v / 2 ^ left / 2 ^ n = ap (λ (k : ℕ). v / 2 ^ k) more ∙ sym (shr-shr v left n) in
    ap₂ (λ (z : List ℕ) (q : ℕ). put_field z q n (v / 2 ^ left)) (e ∙ ap (put_field bs p done) digits) f
    ∙ sym (put_field_join bs p done n (v / 2 ^ left))
    ∙ ap (λ (k : ℕ). put_field bs p (done + n) (v / 2 ^ k)) rest

-- digits of a number in place are at most the number
pub digits_le : (b k w : ℕ) → b / 2 ^ k % 2 ^ w * 2 ^ k ≤ b
digits_le b k w = le_trans (mul-le-mul_right (2 ^ k) (mod-le (b / 2 ^ k) (2 ^ w))) (div-mul-le_self b (2 ^ k))

-- digits shifted to their place lose nothing in a word
pub shifted_digits : (x k w : ℕ) → k + w ≤ 8 → x % 2 ^ w * 2 ^ k % 2 ^ 64 ≡ x % 2 ^ w * 2 ^ k
shifted_digits x k w h = shl_exact w k 64 (mod-lt x (pow_pos w)) (omega arith)

-- a byte stays a byte
pub patched_byte : (b k w v : ℕ) → b < 256 → k + w ≤ 8 → patched b k w v < 256
patched_byte b k w v hb h = subst (λ (z : ℕ). z < 256) (sym (patched_split b k w v)) (subst (λ (z : ℕ). (b / 2 ^ k / 2 ^ w * 2 ^ w + v % 2 ^ w) * 2 ^ k + b % 2 ^ k < z) whole (digits_lt top (mod-lt b (pow_pos k))))
  where
    r : ℕ
    r = 8 - (k + w)

    eight : r + w + k ≡ 8
    eight = omega arith

    eight' : 8 ≡ r + (k + w)
    eight' = omega arith

    whole : 2 ^ (r + w) * 2 ^ k ≡ 256
    whole = sym (pow-add 2 (r + w) k) ∙ ap (λ (e : ℕ). 2 ^ e) eight

    above : b / 2 ^ k / 2 ^ w < 2 ^ r
    above = subst (λ (z : ℕ). z < 2 ^ r) (sym (shr-shr b k w)) (shr_lt r (k + w) (subst (λ (e : ℕ). b < 2 ^ e) eight' hb))

    top : b / 2 ^ k / 2 ^ w * 2 ^ w + v % 2 ^ w < 2 ^ (r + w)
    top = subst (λ (z : ℕ). b / 2 ^ k / 2 ^ w * 2 ^ w + v % 2 ^ w < z) (sym (pow-add 2 r w)) (digits_lt above (mod-lt v (pow_pos w)))
