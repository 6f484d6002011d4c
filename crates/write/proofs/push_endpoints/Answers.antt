-- `push_endpoints` writes the endpoints, row by row. Assumes nothing.
use mathlib.Core.Path.{◌≡◌, refl}
use mathlib.Core.Bool.{Bool}
use mathlib.Core.List.{[], ◌∷◌}
use Prim.Native.Nat.{ℕ}
use borrow.Author.Rules.{rules}
use Rattle.lists.specs.Lists.{on}
use Rattle.packing.specs.Packing.{fields_of}
use Rattle.picture.specs.Layout.{endpoint_widths}
use Rattle.write.specs.Columns.{endpoint_from}
use Rattle.write.specs.Fields.{endpoint_fields}
use Rattle.write.proofs.Rows.{column_count, column_row}
use Rattle.write.proofs.push_endpoints.Goals as goal

-- what a row has
told : (x : ℕ) (b : Bool) → endpoint_fields (endpoint_from x b) ≡ fields_of (16 ∷ 1 ∷ []) (x ∷ on b 1 ∷ [])
unfolding endpoint_fields endpoint_from endpoint_widths
told x b = refl

pub returns : goal.returns
returns c =
    let a = c.args in
    let even = c.requires.even in
    c.push_rows.ensures _
    (record {
      count = column_count endpoint_from endpoint_fields a.weights.now a.is_protected.now even;
      row = λ i r l e. column_row endpoint_from endpoint_fields a.weights.now a.is_protected.now even 16 told l (search rules) (search rules);
    })
