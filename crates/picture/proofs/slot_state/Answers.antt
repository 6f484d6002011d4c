-- `slot_state` reads a slot's first field. Assumes nothing.
use mathlib.Core.Path.{sym, ap, ◌∙◌}
use Prim.Native.Nat.{ℕ}
use Rattle.bits.specs.Bits.{field_at}
use Rattle.picture.specs.Layout.{slot_widths, state_bits}
use Rattle.picture.specs.Picture.{Slot, slot_at}
use Rattle.picture.proofs.Starts.{slot_row, field_first}
use Rattle.picture.proofs.slot_state.Goals as goal

pub returns : goal.returns
unfolding slot_at slot_widths
returns c =
    let a = c.args in
    let pre = c.requires in
    c.field.ensures ∙ ap (λ (p : ℕ). field_at a.s.now p state_bits) c.slot_at.ensures
    ∙ sym (ap (λ (x : Slot). x.state) (slot_row a.h a.s.now a.v pre.1 pre.2) ∙ field_first _ _ _ _)
