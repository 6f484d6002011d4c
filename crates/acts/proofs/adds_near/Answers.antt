-- `adds_near` finds a near slot that a reload of a block adds to the held ones. Assumes nothing.
use mathlib.Core.Path.{refl}
use native.Mathlib.Omega.{arith}
use Rattle.std.proofs.Common.{rules}
use Rattle.lists.proofs.Chains.{any_ranged}
use Rattle.picture.specs.Picture.{picture_of}
use Rattle.network.proofs.Blocks.{read_slots}
use Rattle.acts.specs.Acts.{recoverable_near}
use Rattle.acts.proofs.adds_near.Goals as goal

pub returns : goal.returns
returns c =
    any_ranged (recoverable_near (picture_of c.args.p.now) c.args.b) 1 _ c.any.ensures.ran refl
    (omega (arith, read_slots _ _ c.header.ensures)) (λ x b q k. search rules)
