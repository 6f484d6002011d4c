-- `near_after` counts the near slots that are held after a reload of a block. Assumes nothing.
use mathlib.Core.Bool.{◌||◌}
use native.Mathlib.Omega.{arith}
use Rattle.std.proofs.Common.{rules}
use Rattle.lists.proofs.Chains.{count_ranged}
use Rattle.picture.specs.Picture.{picture_of}
use Rattle.network.specs.Tests.{is_near_held}
use Rattle.network.proofs.Blocks.{read_slots}
use Rattle.acts.specs.Acts.{recoverable_near, near_after}
use Rattle.acts.proofs.near_after.Goals as goal

pub returns : goal.returns
unfolding near_after
returns c =
    let a = c.args in
    count_ranged (λ v. is_near_held (picture_of a.p.now) v || recoverable_near (picture_of a.p.now) a.b v) 1 _ c.count.ensures.ran
    c.filter.ensures.source (omega (arith, read_slots _ _ c.header.ensures)) c.filter.ensures.closure (λ x b q k. search rules)
