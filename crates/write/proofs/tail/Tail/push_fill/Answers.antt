-- Zeros are written up to the byte. Assumes nothing.
use mathlib.Core.Path.{◌≡◌}
use Prim.Native.Nat.{◌%◌}
use native.Mathlib.Omega.{arith}
use lib.Pow.{pow_pos}
use Rattle.bits.proofs.Pushing.{flushed_whole}
use Rattle.write.specs.Tails.{fill_bits}
use Rattle.write.proofs.tail.Tail.push_fill.Goals as goal

pub push-requires : goal.push-requires
unfolding fill_bits
push-requires c = record { room = c.requires; wide = omega arith; value = pow_pos _ }

-- they end with a byte, so that nothing is held behind them
pub returns : goal.returns
unfolding fill_bits
returns c =
    let whole : c.push.result.at % 8 ≡ 0 = omega (arith, c.push.ensures.digits.end) in
    rw (flushed_whole c.push.new.buf c.push.result.at c.push.result.held whole) at c.push.ensures.follows.put
