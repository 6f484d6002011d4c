-- `section_named` looks for the first section of a block. Assumes nothing.
use Rattle.std.proofs.Common.{refl, arith, rules, tests}
use mathlib.Core.Path.{◌∙◌}
use Rattle.lists.proofs.Chains.{position_ranged}
use Rattle.checker.specs.Verdict.{section_named}
use Rattle.checker.proofs.verdict.section_named.Goals as goal

pub returns : goal.returns
unfolding section_named
returns c = c.unwrap_or.ensures ∙ position_ranged _ 0 _ c.position.ensures.ran refl (omega arith) (λ x b q k. search (rules, tests))
