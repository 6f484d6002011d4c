-- The digits that are done are written.
use Rattle.std.proofs.Common.{◌≡◌, ◌-◌, ◌/◌, ◌^◌, ◌≤◌}
use Rattle.bits.specs.Bits.{put_field}
use Rattle.bits.proofs.put_field.Given as goal

abbrev pub invariant-loop-done : goal.invariant-loop-done
invariant-loop-done l = (l.done ≤ l.w) × (l.s ≡ put_field l.fn.s l.p l.done (l.v / 2 ^ (l.w - l.done)))

abbrev pub decreases-loop-done : goal.decreases-loop-done
decreases-loop-done l = l.w - l.done
