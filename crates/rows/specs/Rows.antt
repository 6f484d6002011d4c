-- Rows of marks, 64 to a word: a location is marked by a digit of a word. Inner: nothing here is promised. Assumes nothing.
use Rattle.std.specs.Prelude.{Bool, not, ◌&&◌, ◌||◌, List, [], ◌≡◌, ℕ, ◌+◌, ◌-◌, ◌*◌, ◌/◌, ◌%◌, ◌≤◌, ◌<◌, length, get_or, T, leb, ltb, eqb}
use Rattle.std.specs.Bool.{xor}
use Rattle.std.specs.Int.{bit_at}

-- the slots that rows have a place for: locations are 0, the origin, and the slots 1 to slots_max
abbrev pub slots_max : ℕ
slots_max = 320

-- the rows of a table of links, one for each location
abbrev pub locations_max : ℕ
locations_max = slots_max + 1

-- the words of a row
abbrev pub row_words : ℕ
row_words = 6

-- those of them that the locations 0 to n take
unfoldable pub words_for : ℕ → ℕ
words_for n = n / 64 + 1

-- the locations, or endpoints, that they can mark
abbrev pub marks_max : ℕ
marks_max = row_words * 64

-- whether v is marked in a row of words
unfoldable pub marked : List ℕ → ℕ → Bool
marked row v = eqb (bit_at (get_or row (v / 64) 0) (v % 64)) 1

-- a link leads from a to b: row a marks b
unfoldable pub linked_in : List (List ℕ) → ℕ → ℕ → Bool
linked_in rows a b = marked (get_or rows a []) b

-- whether v is one of the 64 locations from base on, and marked in their word
unfoldable pub in_word : ℕ → ℕ → ℕ → Bool
in_word word base v = leb base v && (ltb v (base + 64) && eqb (bit_at word (v - base)) 1)

-- a row marks nothing but in its first words, so that no more than these need be looked at
pub record Narrow (words : ℕ) (row : List ℕ) : Type 0 where
  pub most : words ≤ row_words
  pub within : (v : ℕ) → T (marked row v) → v < words * 64

-- ---- what the functions on rows do, at each location

-- a row marks what another does, and v too
pub record With (row : List ℕ) (v : ℕ) (row' : List ℕ) : Type 0 where
  pub marks : (u : ℕ) → marked row' u ≡ (marked row u || eqb u v)

-- rows have the links of other rows, and one from a to b too
pub record Linked (rows : List (List ℕ)) (a b : ℕ) (rows' : List (List ℕ)) : Type 0 where
  pub many : length rows' ≡ length rows
  pub links : (x y : ℕ) → linked_in rows' x y ≡ (linked_in rows x y || (eqb x a && eqb y b))

-- a row marks what one of two rows marks and the other does not
pub record Differ (before after row : List ℕ) : Type 0 where
  pub marks : (v : ℕ) → marked row v ≡ xor (marked before v) (marked after v)

-- a row marks what the first of two rows marks and the second does not
pub record Minus (row less row' : List ℕ) : Type 0 where
  pub marks : (v : ℕ) → marked row' v ≡ (marked row v && not (marked less v))

-- of a row, the first words are made of those of two others at the same places, and the rest are 0
pub record Made (made : ℕ → ℕ → ℕ → Type 0) (one other row : List ℕ) (end : ℕ) : Type 0 where
  pub words : (i : ℕ) → i < end → made (get_or one i 0) (get_or other i 0) (get_or row i 0)
  pub rest : (i : ℕ) → end ≤ i → get_or row i 0 ≡ 0

-- whether a row marks nothing
pub record NoneMarked (row : List ℕ) (none : Bool) : Type 0 where
  pub empty : T none → (v : ℕ) → ¬ T (marked row v)
  pub some : T (not none) → (v : ℕ) × T (marked row v)

-- whether a location has two kinds of mark
pub record Meet (marks other : ℕ → Bool) (meet : Bool) : Type 0 where
  pub common : T meet → (v : ℕ) × T (marks v) × T (other v)
  pub apart : T (not meet) → (v : ℕ) → T (marks v) → ¬ T (other v)
