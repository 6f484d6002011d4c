-- Whole bytes are stored and the rest is held.
use Rattle.std.proofs.Common.{◌≡◌, ◌+◌, ◌*◌, ◌%◌, ◌^◌, ◌<◌, length, arith}
use lib.Pow.{shl_exact}
use lib.Bits.{bit_or, or_shifted}
use Rattle.bits.proofs.Masks.{masked}
use Rattle.bits.proofs.Pushing.{push_begun, push_next, push_ended, pushing_long}
use Rattle.bits.proofs.push_field.Goals as goal

pub loop-left-init : goal.loop-left-init
loop-left-init c = push_begun (λ j. (c.type_inv.s j).fits)

pub loop-left-preserved : goal.loop-left-preserved
loop-left-preserved c =
    let room : c.loop-left.k < length c.loop-left.s = omega (arith, pushing_long c.loop-left.invariant, c.loop-left.invariant.place, c.requires.room) in
    push_next c.loop-left.invariant c.loop-left-test.true room

pub returns : goal.returns
returns c =
    let shifted : c.args.held * 2 ^ c.args.w % 2 ^ 64 ≡ c.args.held * 2 ^ c.args.w =
    shl_exact (c.args.p % 8) c.args.w 64 c.requires.few (omega (arith, c.requires.wide)) in
    let joined : bit_or (c.args.held * 2 ^ c.args.w % 2 ^ 64) c.args.v ≡ c.args.held * 2 ^ c.args.w + c.args.v =
    rw shifted (or_shifted c.args.held c.args.w c.args.v c.requires.value) in
    push_ended c.loop-left.invariant c.loop-left-test.false c.requires.value joined (masked _ _ (omega arith))
