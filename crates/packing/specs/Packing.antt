-- Fields, each a width and a value, and the bytes that they pack into. Document 01: "Fields are packed most significant bit first,
-- without gaps". Assumes nothing.
use Rattle.std.specs.Prelude.{List, [], ◌∷◌, ◌++◌, ℕ, zero, suc, ◌+◌, ◌/◌, ◌%◌, ◌^◌, ◌<◌, length, get_or, drop}
use Rattle.bits.specs.Bits.{number}

-- each number is a byte
abbrev pub Bytes : List ℕ → Type 0
Bytes bs = (j : ℕ) → get_or bs j 0 < 256

-- a field to be written: its width and its value
pub record Field : Type 0 where
  pub width : ℕ
  pub value : ℕ

-- values with their widths
unfoldable pub fields_of : List ℕ → List ℕ → List Field
fields_of [] vs = []
fields_of (w ∷ ws) [] = []
fields_of (w ∷ ws) (v ∷ vs) = record { width = w; value = v } ∷ fields_of ws vs

-- the w low digits of v, the highest first
unfoldable pub digits : ℕ → ℕ → List ℕ
digits zero v = []
digits (suc w) v = v / 2 ^ w % 2 ∷ digits w v

-- the bits of the fields, one after the other
unfoldable pub bits : List Field → List ℕ
bits [] = []
bits (f ∷ fs) = digits f.width f.value ++ bits fs

-- n bytes from a list of bits; where the bits end, zeros
unfoldable pub bytes_of : ℕ → List ℕ → List ℕ
bytes_of zero l = []
bytes_of (suc n) l = number (λ i. get_or l i 0) 8 ∷ bytes_of n (drop 8 l)

-- the fields one after the other, without gaps, then zero bits up to the byte
unfoldable pub packed : List Field → List ℕ
packed fs = bytes_of ((length (bits fs) + 7) / 8) (bits fs)
