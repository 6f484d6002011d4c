-- `marks_any` looks for a marked location of a range. Assumes nothing.
use Rattle.std.proofs.Common.{◌+◌, ◌-◌, ◌∙◌, refl, rules, tests}
use Rattle.lists.proofs.Chains.{any_ranged}
use Rattle.rows.specs.Rows.{marked}
use Rattle.rows.proofs.Ranges.{any_next}
use Rattle.rows.proofs.marks_any.Goals as goal

pub returns : goal.returns
returns c =
    any_ranged (λ v. marked c.args.row.now (v + 1)) c.args.r.after _ c.any.ensures.ran refl refl (λ x b q k. search (rules, tests))
    ∙ any_next (marked c.args.row.now) c.args.r.after (c.args.r.last - c.args.r.after)
