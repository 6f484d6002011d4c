-- What a list of fields takes, when its values fit, when bytes hold it, and what it is to write it. Assumes nothing.
use Rattle.std.specs.Prelude.{◌≡◌, List, [], ◌∷◌, ℕ, ◌+◌, ◌^◌, ◌≤◌, ◌<◌, length}
use Rattle.bits.specs.Bits.{bit_at, field_at}
use Rattle.packing.specs.Packing.{Field}

-- the bits that the fields take
unfoldable pub span : List Field → ℕ
span [] = 0
span (f ∷ fs) = f.width + span fs

-- each value is below 2 ^ width
unfoldable pub Fit : List Field → Type 0
Fit [] = Unit {0}
Fit (f ∷ fs) = (f.value < 2 ^ f.width) × Fit fs

-- the bytes hold the fields, one after the other, from bit q on
unfoldable pub Holds : List ℕ → ℕ → List Field → Type 0
Holds bs q [] = Unit {0}
Holds bs q (f ∷ fs) = (field_at bs q f.width ≡ f.value) × Holds bs (q + f.width) fs

-- bytes hold fields from bit q on, and are as they were everywhere else
pub record Put (bs : List ℕ) (q : ℕ) (fs : List Field) (bs' : List ℕ) : Type 0 where
  pub long : length bs' ≡ length bs
  pub holds : Holds bs' q fs
  pub before : (i : ℕ) → i < q → bit_at bs' i ≡ bit_at bs i
  pub after : (i : ℕ) → q + span fs ≤ i → bit_at bs' i ≡ bit_at bs i
