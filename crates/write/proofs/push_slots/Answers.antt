-- `push_slots` writes the slots, row by row. Assumes nothing.
use mathlib.Core.Path.{◌≡◌, refl}
use mathlib.Core.Bool.{Bool}
use mathlib.Core.List.{[], ◌∷◌}
use Prim.Native.Nat.{ℕ}
use borrow.Author.Rules.{rules}
use Rattle.lists.specs.Lists.{on}
use Rattle.packing.specs.Packing.{fields_of}
use Rattle.picture.specs.Layout.{slot_widths}
use Rattle.write.specs.Columns.{slot_from}
use Rattle.write.specs.Fields.{slot_fields}
use Rattle.write.proofs.Rows.{column_count, column_row}
use Rattle.write.proofs.push_slots.Goals as goal

-- what a row has
told : (x : ℕ) (b : Bool) → slot_fields (slot_from x b) ≡ fields_of (2 ∷ 1 ∷ []) (x ∷ on b 1 ∷ [])
unfolding slot_fields slot_from slot_widths
told x b = refl

pub returns : goal.returns
returns c =
    let a = c.args in
    let even = c.requires.even in
    c.push_rows.ensures _
    (record {
      count = column_count slot_from slot_fields a.states.now a.is_near.now even;
      row = λ i r l e. column_row slot_from slot_fields a.states.now a.is_near.now even 2 told l (search rules) (search rules);
    })
