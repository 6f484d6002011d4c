-- `put_state` writes a slot's first field. Assumes nothing.
use Prim.Native.Nat.{ℕ, ◌+◌, ◌-◌, ◌*◌, ◌^◌, ◌≤◌, ◌<◌}
use native.Mathlib.Omega.{arith}
use Rattle.lists.specs.Lists.{sum}
use Rattle.picture.specs.declared.Header.{Header}
use Rattle.picture.specs.Layout.{slot_widths, state_bits, slots_at, endpoints_at, size_of}
use Rattle.picture.specs.Inner.{Limited}
use Rattle.picture.proofs.Starts.{ordered, rounded}
use Rattle.picture.proofs.put_state.Goals as goal

-- a slot's fields lie within the bytes
slot_fits : (h : Header) → Limited h → (v n : ℕ) → 1 ≤ v → v ≤ h.slots → size_of h ≤ n
    → (slots_at h.edition + (v - 1) * sum slot_widths + state_bits ≤ n * 8) × (slots_at h.edition + (v - 1) * sum slot_widths < 2 ^ 32)
unfolding endpoints_at slot_widths sum
slot_fits h l v n some most long = omega (arith, ordered h l, rounded h)

pub put_field-requires : goal.put_field-requires
put_field-requires c =
    let p = c.requires in
    omega (arith, c.slot_at.ensures, slot_fits _ p.0 _ _ p.1 p.2 p.3)
