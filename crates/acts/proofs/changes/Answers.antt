-- `changes` finds a slot of a block whose state an act changes. Assumes nothing.
use mathlib.Core.Path.{refl, ◌∙◌}
use native.Mathlib.Omega.{arith}
use Rattle.std.proofs.Common.{rules}
use Rattle.std.proofs.iter.Serving.{serving}
use Rattle.lists.proofs.Chains.{any_ranged}
use Rattle.picture.specs.Picture.{picture_of}
use Rattle.acts.proofs.Headers.{read_within, changed, read_changes}
use Rattle.acts.proofs.changes.Goals as goal

pub any-requires-clause-callable : goal.any-requires-clause-callable
any-requires-clause-callable c = grind (arith, serving, read_within)

pub returns : goal.returns
returns c =
    any_ranged (changed c.args.a (picture_of c.args.p.now)) _ _ c.any.ensures.ran refl (omega arith) (λ x b q k. search rules)
    ∙ read_changes _ _ c.header-h.ensures c.args.a c.args.b
