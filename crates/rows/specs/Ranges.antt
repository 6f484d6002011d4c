-- Locations by their numbers. Inner: nothing here is promised. Assumes nothing.
use Rattle.std.specs.Prelude.{Bool, not, ◌&&◌, ◌≡◌, ℕ, ◌+◌, ◌<◌, leb, eqb}
use Rattle.rows.specs.declared.Range.{Range}
use Rattle.std.specs.Int.{bit_at}
use Rattle.rows.specs.Rows.{in_word}

-- v is a location of a range: above its first number, and at most its last
unfoldable pub in_range : Range → ℕ → Bool
in_range r v = leb (r.after + 1) v && leb v r.last

-- the range of no location
abbrev pub no_range : Range
no_range = record { after = 0; last = 0 }

-- marks, but for those of a range
unfoldable pub without : Range → (ℕ → Bool) → ℕ → Bool
without r marks v = marks v && not (in_range r v)

-- links, but for those into a range
abbrev pub avoiding : Range → (ℕ → ℕ → Bool) → ℕ → ℕ → Bool
avoiding r linked a = without r (linked a)

-- ---- what the functions on words do

-- the digits of a word whose first place is location base are set up to that of location v
pub record UpTo (base v word : ℕ) : Type 0 where
  pub digits : (i : ℕ) → i < 64 → eqb (bit_at word i) 1 ≡ leb (base + i) v

-- a word has the marks of another, but for those of a range
pub record LeftOut (r : Range) (word base left : ℕ) : Type 0 where
  pub marks : (v : ℕ) → in_word left base v ≡ without r (in_word word base) v
