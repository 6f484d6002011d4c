-- `judge_lists` finds the first fault of the states and of the links. Assumes nothing.
use borrow.Author.Rules.{rules}
use mathlib.Core.Path.{◌∙◌}
use Rattle.std.proofs.lemmas.Result.{err_from_is_err_and}
use Rattle.lists.proofs.Faults.{first_one}
use Rattle.picture.specs.Faults.{link_fault, service_link_fault}
use Rattle.picture.proofs.Refusing.{refused_first, passed_first}
use Rattle.write.proofs.judge_lists.Goals as goal

pub returns-in_err-judge_states : goal.returns-in_err-judge_states
returns-in_err-judge_states c =
    let p = err_from_is_err_and c.from_residual.result c.from_residual.ensures.1 in
    rw (p.1, p.2) (refused_first _ _ c.in_err-judge_states.ensures)

pub returns-in_err-judge_pairs : goal.returns-in_err-judge_pairs
returns-in_err-judge_pairs c =
    let p = err_from_is_err_and c.from_residual-in_err-judge_pairs.result c.from_residual-in_err-judge_pairs.ensures.1 in
    rw (p.1, p.2)
    (passed_first _ c.in_ok-judge_states.ensures (refused_first _ _ (c.in_err-judge_pairs.ensures (link_fault c.args.n) (λ l r e. search rules))))

pub returns : goal.returns
returns c =
    passed_first _ c.in_ok-judge_states.ensures
    (passed_first _ (c.in_ok-judge_pairs.ensures (link_fault c.args.n) (λ l r e. search rules))
    (c.judge_pairs-2.ensures (service_link_fault c.args.n c.args.d) (λ l r e. search rules) ∙ first_one _))
