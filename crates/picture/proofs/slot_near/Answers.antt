-- `slot_near` reads a slot's second field. Assumes nothing.
use mathlib.Core.Path.{sym, ap, ◌∙◌}
use Prim.Native.Nat.{ℕ, ◌+◌}
use native.Mathlib.Omega.{arith}
use lib.Dec.{eqb}
use Rattle.bits.specs.Bits.{field_at}
use Rattle.lists.specs.Lists.{sum}
use Rattle.picture.specs.Layout.{header_widths, slot_widths, state_bits, slots_at}
use Rattle.picture.specs.Picture.{Slot, slot_at}
use Rattle.picture.proofs.Starts.{slot_row, field_second, few}
use Rattle.picture.proofs.slot_near.Goals as goal

pub overflow_add-slot_at : goal.overflow_add-slot_at
unfolding slots_at header_widths slot_widths sum
overflow_add-slot_at c = let p = c.requires in omega (arith, p.2, c.slot_at.ensures, few _ p.0)

pub returns : goal.returns
unfolding slot_at slot_widths
returns c =
    let a = c.args in
    let pre = c.requires in
    ap (λ (x : ℕ). eqb x 1) (c.field.ensures ∙ ap (λ (p : ℕ). field_at a.s.now (p + state_bits) 1) c.slot_at.ensures)
    ∙ sym (ap (λ (x : Slot). x.near) (slot_row a.h a.s.now a.v pre.1 pre.2) ∙ ap (λ (x : ℕ). eqb x 1) (field_second _ _ _ _ _))
