-- Two adjacent fields are written as one. Assumes nothing.
use mathlib.Core.Path.{◌≡◌}
use Prim.Native.Nat.{◌+◌, ◌*◌, ◌%◌, ◌^◌}
use native.Mathlib.Omega.{arith}
use lib.Pow.{shl_exact}
use lib.Bits.{bit_or, or_shifted}
use Rattle.packing.proofs.Putting.{both_small}
use Rattle.write.proofs.Tails.{follows_pair}
use Rattle.write.proofs.tail.Tail.push_pair.Goals as goal
use Rattle.write.proofs.tail.Tail.push_pair.Goals.{Start}

-- the two values as one
joined : (c : Start) → let a = c.args in bit_or (a.first * 2 ^ a.second_bits % 2 ^ 64) a.second ≡ a.first * 2 ^ a.second_bits + a.second
joined c =
    let a = c.args in
    let p = c.requires in
    let shifted : a.first * 2 ^ a.second_bits % 2 ^ 64 ≡ a.first * 2 ^ a.second_bits =
    shl_exact a.first_bits a.second_bits 64 p.first (omega (arith, p.wide)) in
    rw shifted (or_shifted a.first a.second_bits a.second p.second)

pub push-requires : goal.push-requires
push-requires c =
    let a = c.args in
    let p = c.requires in
    record {
      room = p.room;
      wide = p.wide;
      value = omega (arith, joined (goal.at.push-requires c).Start, both_small a.first_bits a.second_bits p.first p.second);
    }

pub returns : goal.returns
returns c = follows_pair c.requires (rw (joined (goal.at.returns c).Start) at c.push.ensures.digits)
