-- `slot_at` finds where a slot starts. Assumes nothing.
use mathlib.Core.Path.{ap}
use Prim.Native.Nat.{ℕ, ◌+◌, ◌-◌, ◌*◌}
use native.Mathlib.Omega.{arith}
use Rattle.lists.specs.Lists.{sum}
use Rattle.picture.specs.Layout.{header_widths, slot_widths, slots_at}
use Rattle.picture.proofs.Starts.{few}
use Rattle.picture.proofs.slot_at.Goals as goal

pub slots_at-requires : goal.slots_at-requires
slots_at-requires c = c.requires.0.known

pub overflow_mul-result : goal.overflow_mul-result
overflow_mul-result c = omega (arith, c.requires.2, few _ c.requires.0)

pub overflow_add-result : goal.overflow_add-result
unfolding slots_at header_widths sum
overflow_add-result c = omega (arith, c.requires.2, c.slots_at.ensures, few _ c.requires.0)

pub returns : goal.returns
unfolding slot_widths sum
returns c = ap (λ (p : ℕ). p + (c.args.v - 1) * 3) c.slots_at.ensures
