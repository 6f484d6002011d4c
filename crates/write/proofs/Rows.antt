-- The rows of the lists, as the code reads them. Assumes nothing.
use mathlib.Core.Path.{◌≡◌, refl}
use mathlib.Core.Bool.{Bool, true, false}
use mathlib.Core.List.{List, [], ◌∷◌, map, zip_with}
use Prim.Native.Nat.{ℕ, ◌^◌, ◌<◌}
use native.Mathlib.Omega.{arith}
use lib.Dec.{lit<}
use lib.ListN.{length, get_or, length-map, get_or-map}
use mir.Val.{bool_byte}
use Rattle.lists.specs.Lists.{on}
use Rattle.lists.proofs.Picks.{map_at}
use Rattle.lists.proofs.Zips.{length_zip, get_d_zip}
use Rattle.packing.specs.Packing.{Field, fields_of}
use Rattle.write.specs.Columns.{link_from}
use Rattle.write.specs.Fields.{link_fields}

-- a mark as the code has it
pub mark_small : (b : Bool) → bool_byte b < 2 ^ 1
mark_small true = lit< tt
mark_small false = lit< tt

mark_told : (b : Bool) → bool_byte b ≡ on b 1
unfolding on
mark_told true = refl
mark_told false = refl

-- rows of two columns, a number and a mark
module _ {A : Type 0} (f : ℕ → Bool → A) (g : A → List Field) (xs : List ℕ) (bs : List Bool) (even : length xs ≡ length bs) where
  pub column_count : length (map g (zip_with f xs bs)) ≡ length xs
  column_count = simp length-map (length_zip f xs bs even)

  pub column_row : (w : ℕ) → ((x : ℕ) (b : Bool) → g (f x b) ≡ fields_of (w ∷ 1 ∷ []) (x ∷ on b 1 ∷ [])) → {i x y : ℕ} → i < length xs
      → x ≡ get_or xs i 0 → y ≡ bool_byte (get_or bs i false)
      → fields_of (w ∷ 1 ∷ []) (x ∷ y ∷ []) ≡ get_or (map g (zip_with f xs bs)) i []
  column_row w told {i} l first second =
      let long = length_zip f xs bs even in
      let row = get_d_zip f xs bs 0 false (f 0 false) i l (omega (arith, even)) in
      rw (map_at g [] (f 0 false) (zip_with f xs bs) i (omega (arith, long)), row, told, first, second, mark_told (get_or bs i false))

-- rows of links or of service links, whose ends have these widths
module _ (a b : ℕ) (pairs : List (List ℕ)) where
  pub pair_count : length (map (link_fields (a ∷ b ∷ [])) (map link_from pairs)) ≡ length pairs
  pair_count = simp length-map

  pub pair_row : {i x y : ℕ} → i < length pairs → x ≡ (link_from (get_or pairs i [])).from → y ≡ (link_from (get_or pairs i [])).to
      → fields_of (a ∷ b ∷ []) (x ∷ y ∷ []) ≡ get_or (map (link_fields (a ∷ b ∷ [])) (map link_from pairs)) i []
  unfolding link_fields
  pair_row {i} l first second =
      let row = map_at (link_fields (a ∷ b ∷ [])) [] (link_from []) (map link_from pairs) i (simp length-map l) in
      rw (row, get_or-map link_from pairs i [], first, second)
