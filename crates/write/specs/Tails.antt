-- What follows what is written: it serves the contracts of the functions that write, and nothing here is promised. Assumes nothing.
use Rattle.std.specs.Prelude.{List, [], ◌∷◌, ◌≡◌, ℕ, ◌+◌, ◌-◌, ◌*◌, ◌/◌, ◌^◌, ◌≤◌, ◌<◌, length, get_or}
use Rattle.std.proofs.Common.{lit<}
use Rattle.bits.specs.Bits.{put_field}
use Rattle.bits.specs.Pushing.{flushed}
use Rattle.packing.specs.Packing.{Field, fields_of}
use Rattle.packing.specs.Holding.{span, Put}
use Rattle.write.specs.declared.tail.Tail.{Tail}

-- nothing is written
abbrev pub start : Tail
start = record { at = 0; held = 0; few = lit< tt }

-- there is room for n bits more. A place is low enough for the numbers of the code
pub record Room (from : Tail) (n : ℕ) (buf : List ℕ) : Type 0 where
  pub fits : from.at + n ≤ length buf * 8
  pub low : from.at < 2 ^ 32

-- the same for many fields, whose places are all low enough
pub record LongRoom (from : Tail) (n : ℕ) (buf : List ℕ) : Type 0 where
  pub fits : from.at + n ≤ length buf * 8
  pub low : from.at + n < 2 ^ 32

-- a field of w bits stands behind what was written, up to another tail; before and after, the bits that fill no byte are held
pub record Pushed (old : List ℕ) (from : Tail) (w v : ℕ) (new : List ℕ) (to : Tail) : Type 0 where
  pub end : to.at ≡ from.at + w
  pub same : flushed new to.at to.held ≡ put_field (flushed old from.at from.held) from.at w v

-- fields stand there
pub record Follows (old : List ℕ) (from : Tail) (fs : List Field) (new : List ℕ) (to : Tail) : Type 0 where
  pub end : to.at ≡ from.at + span fs
  pub put : Put (flushed old from.at from.held) from.at fs (flushed new to.at to.held)

-- a field fits its width, and there is room for it
pub record FieldFits (from : Tail) (w v : ℕ) (buf : List ℕ) : Type 0 where
  pub room : Room from w buf
  pub wide : w ≤ 32
  pub value : v < 2 ^ w

-- the same of two adjacent fields
pub record PairFits (from : Tail) (a b x y : ℕ) (buf : List ℕ) : Type 0 where
  pub room : Room from (a + b) buf
  pub wide : a + b ≤ 32
  pub first : x < 2 ^ a
  pub second : y < 2 ^ b

-- and of rows of them, which are read by number
pub record RowsFit (from : Tail) (a b n : ℕ) (pre : ℕ → Type 0) (post : ℕ → ℕ × ℕ → Type 0) (buf : List ℕ) : Type 0 where
  pub room : LongRoom from (n * (a + b)) buf
  pub wide : a + b ≤ 32
  pub read : (i : ℕ) → i < n → pre i
  pub first : (i : ℕ) (r : ℕ × ℕ) → i < n → post i r → r.0 < 2 ^ a
  pub second : (i : ℕ) (r : ℕ × ℕ) → i < n → post i r → r.1 < 2 ^ b

-- these are the rows that are read
pub record RowsAre (a b n : ℕ) (post : ℕ → ℕ × ℕ → Type 0) (rows : List (List Field)) : Type 0 where
  pub count : length rows ≡ n
  pub row : (i : ℕ) (r : ℕ × ℕ) → i < n → post i r → fields_of (a ∷ b ∷ []) (r.0 ∷ r.1 ∷ []) ≡ get_or rows i []

-- the bits from a place up to the byte
unfoldable pub fill_bits : ℕ → ℕ
fill_bits end = (end + 7) / 8 * 8 - end

-- they are zeros behind what was written, so that none is held
abbrev pub Filled : List ℕ → Tail → List ℕ → Type 0
Filled old from new = Put (flushed old from.at from.held) from.at (fields_of (fill_bits from.at ∷ []) (0 ∷ [])) new
