-- `any_named` looks for a section that is named. Assumes nothing.
use Rattle.std.proofs.Common.{◌∙◌, length, get_or, refl, arith, rules, tests}
use Rattle.lists.proofs.Chains.{any_ranged}
use Rattle.lists.proofs.Ranges.{any_places}
use Rattle.evidence.specs.Canonical.{no_cost}
use Rattle.evidence.specs.Checks.{is_named}
use Rattle.checker.proofs.verdict.Sections.any_named.Goals as goal

pub returns : goal.returns
returns c =
    let test = is_named c.args.block c.args.c in
    let sections = c.args.self.now in
    any_ranged (λ i. test (get_or sections i no_cost)) 0 (length sections) c.any.ensures.ran refl (omega (arith, c.count.ensures))
    (λ x b q k. search (rules, tests))
    ∙ any_places no_cost test sections
