-- Digits by digits: at least one, no more than are left, and all in one byte.
use Rattle.std.proofs.Common.{◌+◌, ◌≤◌, zero-le, sym, refl, ◌∙◌, arith}
use Rattle.bits.proofs.Writing.{put_field_zero, put_field_chunk}
use Rattle.bits.proofs.put_field.Goals as goal

pub loop-done-init : goal.loop-done-init
loop-done-init c = (zero-le, sym (put_field_zero c.args.s.now c.args.p _))

pub loop-done-preserved : goal.loop-done-preserved
loop-done-preserved c =
    let done = c.loop-done.done in
    let n = c.min-next.result in
    let within : done + n ≤ c.args.w = omega (arith, c.min-next.ensures, c.loop-done.invariant.0) in
    (within, c.put_in_byte.ensures ∙ put_field_chunk c.args.s.now c.args.p c.args.w c.args.v done _ n _ c.loop-done.invariant.1 refl (omega arith))
