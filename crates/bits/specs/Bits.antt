-- Bit fields of a list of bytes, of a general width at any bit position. Document 01: "Fields are packed most significant bit
-- first, without gaps". Assumes nothing.
use Rattle.std.specs.Prelude.{List, ℕ, zero, suc, ◌+◌, ◌-◌, ◌*◌, ◌/◌, ◌%◌, ◌^◌, get_or, set}

-- bit i of the bytes: bit 0 is the highest of the first byte; past the end every bit is 0
unfoldable pub bit_at : List ℕ → ℕ → ℕ
bit_at bs i = get_or bs (i / 8) 0 / 2 ^ (7 - i % 8) % 2

-- the number whose w binary digits are f 0, f 1, .., f (w - 1), the first the highest
unfoldable pub number : (ℕ → ℕ) → ℕ → ℕ
number f zero = 0
number f (suc w) = number f w * 2 + f w

-- the field of w bits that starts at bit p
unfoldable pub field_at : List ℕ → ℕ → ℕ → ℕ
field_at bs p w = number (λ i. bit_at bs (p + i)) w

-- the bytes with bit i set to x
unfoldable pub set_bit : List ℕ → ℕ → ℕ → List ℕ
set_bit bs i x = set bs (i / 8) (get_or bs (i / 8) 0 - bit_at bs i * 2 ^ (7 - i % 8) + x * 2 ^ (7 - i % 8))

-- the bytes with the field of w bits from bit p on set to the w low digits of v
unfoldable pub put_field : List ℕ → ℕ → ℕ → ℕ → List ℕ
put_field bs p zero v = bs
put_field bs p (suc w) v = set_bit (put_field bs p w (v / 2)) (p + w) (v % 2)
