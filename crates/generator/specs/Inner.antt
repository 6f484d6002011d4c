-- What serves the contracts of inner functions alone: nothing here is promised. Assumes nothing.
use Rattle.std.specs.Prelude.{List, [], ◌∷◌, ◌≡◌, ℕ, ◌+◌, ◌*◌, ◌%◌, ◌^◌, ◌≤◌, length}
use Rattle.lists.specs.Lists.{first, flat}
use Rattle.packing.specs.Packing.{Field, fields_of}
use Rattle.picture.specs.declared.Header.{Header}
use Rattle.picture.specs.Layout.{edition1, size_of}
use Rattle.write.specs.Tails.{LongRoom, Room, Follows}
use Rattle.draws.specs.Draws.{state_after, draw}
use Rattle.generator.specs.declared.DrawnField.{DrawnField}
use Rattle.generator.specs.declared.Progress.{Progress}
use Rattle.generator.specs.Generated.{drawn_rows}
use Rattle.generator.specs.Faults.{asked_faults}

-- what a field takes of a draw
unfoldable pub taken : DrawnField → ℕ → ℕ
taken f x = x % f.values + f.least

-- the fields of a row, of two draws
unfoldable pub row_fields : DrawnField → DrawnField → ℕ → ℕ → List Field
row_fields a b x y = fields_of (a.bits ∷ b.bits ∷ []) (taken a x ∷ taken b y ∷ [])

-- a field has values, and room for each
pub record Roomy (f : DrawnField) : Type 0 where
  pub some : 1 ≤ f.values
  pub most : f.values + f.least ≤ 2 ^ f.bits

-- there is room for a row of two fields
pub record RowFits (p : Progress) (a b : DrawnField) (buf : List ℕ) : Type 0 where
  pub room : Room p.tail (a.bits + b.bits) buf
  pub wide : a.bits + b.bits ≤ 32
  pub first : Roomy a
  pub second : Roomy b

-- for rows of them
pub record RowsFit (p : Progress) (a b : DrawnField) (count : ℕ) (buf : List ℕ) : Type 0 where
  pub room : LongRoom p.tail (count * (a.bits + b.bits)) buf
  pub wide : a.bits + b.bits ≤ 32
  pub first : 1 ≤ count → Roomy a
  pub second : 1 ≤ count → Roomy b

-- a row stands behind what was written, filled by the next two draws
pub record RowDrawn (p : Progress) (a b : DrawnField) (old new : List ℕ) (r : Progress) : Type 0 where
  pub state : r.state ≡ state_after p.state 2
  pub follows : Follows old p.tail (row_fields a b (draw p.state 1) (draw p.state 2)) new r.tail

-- rows of them
pub record RowsDrawn (p : Progress) (a b : DrawnField) (count : ℕ) (old new : List ℕ) (r : Progress) : Type 0 where
  pub state : r.state ≡ state_after p.state (count * 2)
  pub follows : Follows old p.tail (flat (drawn_rows (row_fields a b) p.state 0 count)) new r.tail

-- a header of edition 1 without a fault, whose slots may all be near, and room for its picture
pub record Ready (h : Header) (buf : List ℕ) : Type 0 where
  pub edition : h.edition ≡ edition1
  pub near : h.near_limit ≡ h.slots
  pub right : first (asked_faults h) ≡ 0
  pub room : size_of h ≤ length buf
