-- Laws of bytes that fields are written to: bytes that hold the fields are the packed ones, and a write leaves the fields beside it.
-- Assumes nothing.
use mathlib.Core.Path.{◌≡◌, sym, ap, ◌∙◌}
use mathlib.Core.Logic.{by_cases}
use mathlib.Core.List.{List, [], ◌∷◌, ◌++◌}
use Prim.Native.Nat.{ℕ, suc, ◌+◌, ◌-◌, ◌*◌, ◌/◌, ◌%◌, ◌^◌, ◌<◌, ◌≤◌}
use native.Mathlib.Omega.{arith}
use native.Mathlib.Nat.{add_assoc, zero-add, mod-eq_of_lt}
use native.Mathlib.Decide.{dec_lt}
use lib.ListN.{length, get_or, drop, length-append, length-drop, get_or-append}
use lib.Seq.{get_or-drop, get_or-append-add, ext_get_or}
use Rattle.bits.specs.Bits.{bit_at, number, field_at, put_field}
use Rattle.bits.proofs.Reading.{number_ext, bit_at_lt, field_at_byte}
use Rattle.bits.proofs.Writing.{field_put}
use Rattle.packing.specs.Packing.{Bytes, Field, packed}
use Rattle.packing.specs.Holding.{span, Fit, Holds}
use Rattle.packing.proofs.Packed.{number_bit, length_packed, packed_byte, packed_fill, packed_holds}

-- ---- fields and bits

-- a field is its bits
pub field_at_ext : (bs cs : List ℕ) (p w : ℕ) → ((i : ℕ) → i < w → bit_at bs (p + i) ≡ bit_at cs (p + i)) → field_at bs p w ≡ field_at cs p w
unfolding field_at
field_at_ext bs cs p w e = number_ext (λ i. bit_at bs (p + i)) (λ i. bit_at cs (p + i)) w e

pub field_at_bits : (bs cs : List ℕ) (p w : ℕ) → field_at bs p w ≡ field_at cs p w → (i : ℕ) → i < w → bit_at bs (p + i) ≡ bit_at cs (p + i)
unfolding field_at
field_at_bits bs cs p w e i s = sym (bit bs) ∙ ap (λ (x : ℕ). x / 2 ^ (w - suc i) % 2) e ∙ bit cs
  where
    whole : i + suc (w - suc i) ≡ w
    whole = omega arith

    bit : (l : List ℕ) → number (λ j. bit_at l (p + j)) w / 2 ^ (w - suc i) % 2 ≡ bit_at l (p + i)
    bit l =
        ap (λ (n : ℕ). number (λ j. bit_at l (p + j)) n / 2 ^ (w - suc i) % 2) (sym whole)
        ∙ number_bit (λ j. bit_at l (p + j)) (λ j. bit_at_lt l (p + j)) i (w - suc i)

-- what bytes hold is a matter of their bits
pub holds_ext : (bs cs : List ℕ) (q : ℕ) (fs : List Field) → ((i : ℕ) → i < span fs → bit_at bs (q + i) ≡ bit_at cs (q + i)) → Holds bs q fs → Holds cs q fs
unfolding Holds span
holds_ext bs cs q [] e h = tt
holds_ext bs cs q (f ∷ fs) e h = (
  sym (field_at_ext bs cs q f.width (λ i s. e i (omega arith))) ∙ h.0,
  holds_ext bs cs (q + f.width) fs (λ i s. rw (add_assoc q f.width i) (e (f.width + i) (omega arith))) h.1,
)

-- the other way: where two lists of bytes hold the same fields, they have the same bits
pub holds_bits : (bs cs : List ℕ) (q : ℕ) (fs : List Field) → Holds bs q fs → Holds cs q fs → (i : ℕ) → i < span fs → bit_at bs (q + i) ≡ bit_at cs (q + i)
unfolding Holds span
holds_bits bs cs q [] a b i s = absurd (omega arith)
holds_bits bs cs q (f ∷ fs) a b i s = by_cases (dec_lt i f.width)
    (λ l. field_at_bits bs cs q f.width (a.0 ∙ sym b.0) i l)
    (λ l. let place : q + f.width + (i - f.width) ≡ q + i = omega arith in
    rw place at (holds_bits bs cs (q + f.width) fs a.1 b.1 (i - f.width) (omega arith)))

-- ---- bytes and bits

-- bytes are their bits
pub bytes_ext : (bs cs : List ℕ) → Bytes bs → Bytes cs → length bs ≡ length cs
    → ((i : ℕ) → i < 8 * length bs → bit_at bs i ≡ bit_at cs i) → bs ≡ cs
bytes_ext bs cs hb hc n e =
    ext_get_or 0 bs cs n (λ j s. sym (field_at_byte bs j (hb j)) ∙ field_at_ext bs cs (j * 8) 8 (λ i l. e (j * 8 + i) (omega arith)) ∙ field_at_byte cs j (hc j))

-- behind bytes written over the front of a buffer stands the rest of the buffer
get_d_behind : (xs buf : List ℕ) (j : ℕ) → length xs ≤ j → get_or (xs ++ drop (length xs) buf) j 0 ≡ get_or buf j 0
get_d_behind xs buf j h =
    let place : length xs + (j - length xs) ≡ j = omega arith in
    ap (λ (i : ℕ). get_or (xs ++ drop (length xs) buf) i 0) (sym place) ∙ get_or-append-add xs (drop (length xs) buf) (j - length xs) 0
    ∙ get_or-drop (length xs) buf (j - length xs) 0 ∙ ap (λ (i : ℕ). get_or buf i 0) place

-- bytes that hold the fields, then zeros up to the byte, and behind that are a buffer's, are the packed fields over the front of the buffer
pub held_packed : (buf bs : List ℕ) (fs : List Field) (k : ℕ) → Fit fs → (span fs + 7) / 8 ≡ k → k ≤ length buf → length bs ≡ length buf → Bytes bs → Bytes buf
    → Holds bs 0 fs → ((i : ℕ) → span fs ≤ i → i < k * 8 → bit_at bs i ≡ 0) → ((i : ℕ) → k * 8 ≤ i → bit_at bs i ≡ bit_at buf i) → bs ≡ packed fs ++ drop k buf
unfolding bit_at
held_packed buf bs fs k fit e room n hs hb held fill rest = rw (← size) (bytes_ext bs (xs ++ drop (length xs) buf) hs byte long bit)
  where
    xs : List ℕ
    xs = packed fs

    size : length xs ≡ k
    size = length_packed fs ∙ e

    long : length bs ≡ length (xs ++ drop (length xs) buf)
    long = simp (length-append, length-drop) (omega (arith, size))

    byte : Bytes (xs ++ drop (length xs) buf)
    byte j = by_cases (dec_lt j (length xs))
        (λ s. rw (get_or-append xs (drop (length xs) buf) 0 j s) (packed_byte fs j))
        (λ s. rw (get_d_behind xs buf j (omega arith)) (hb j))

    -- a bit of the packed fields is one of the whole
    front : (i : ℕ) → i < k * 8 → bit_at xs i ≡ bit_at (xs ++ drop (length xs) buf) i
    front i l = rw (get_or-append xs (drop (length xs) buf) 0 (i / 8) (omega (arith, size)))

    bit : (i : ℕ) → i < 8 * length bs → bit_at bs i ≡ bit_at (xs ++ drop (length xs) buf) i
    bit i s = by_cases (dec_lt i (k * 8))
        (λ l. by_cases (dec_lt i (span fs))
        (λ m. rw (zero-add i) at (holds_bits bs xs 0 fs held (packed_holds fs fit) i m))
        (λ m. fill i (omega arith) l ∙ sym (packed_fill fs i (omega arith) (omega arith))) ∙ front i l)
        (λ l. rest i (omega arith) ∙ rw (get_d_behind xs buf (i / 8) (omega (arith, size))))

-- ---- a field that is written

pub put_holds : (bs : List ℕ) (q : ℕ) (f : Field) → f.value < 2 ^ f.width → q + f.width ≤ length bs * 8
    → field_at (put_field bs q f.width f.value) q f.width ≡ f.value
put_holds bs q f h room = field_put bs q f.width f.value room ∙ mod-eq_of_lt h
