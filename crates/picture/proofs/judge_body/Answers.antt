-- `judge_body` finds the first fault of the parts after the header. Assumes nothing.
use mathlib.Core.Path.{sym, ap, ◌∙◌}
use mathlib.Core.Bool.{not}
use Rattle.std.proofs.lemmas.Result.{err_from_is_err_and}
use Rattle.lists.proofs.Faults.{end_at_lem}
use Rattle.picture.specs.Faults.{list_faults, body_faults}
use Rattle.picture.proofs.Finding.{tells, passes}
use Rattle.picture.proofs.Refusing.{refused_first, passed_first}
use Rattle.picture.proofs.judge_body.Goals as goal

pub returns-in_err-judge_states : goal.returns-in_err-judge_states
unfolding body_faults list_faults
returns-in_err-judge_states g c =
    let p = err_from_is_err_and c.from_residual.result c.from_residual.ensures.1 in
    rw (p.1, p.2) (refused_first _ _ c.in_err-judge_states.ensures)

pub returns-in_err-judge_links : goal.returns-in_err-judge_links
unfolding body_faults list_faults
returns-in_err-judge_links g c =
    let p = err_from_is_err_and c.from_residual-in_err-judge_links.result c.from_residual-in_err-judge_links.ensures.1 in
    rw (p.1, p.2) (passed_first _ c.in_ok-judge_states.ensures (refused_first _ _ c.in_err-judge_links.ensures))

pub returns-in_err-judge_service_links : goal.returns-in_err-judge_service_links
unfolding body_faults list_faults
returns-in_err-judge_service_links g c =
    let p = err_from_is_err_and c.from_residual-in_err-judge_service_links.result c.from_residual-in_err-judge_service_links.ensures.1 in
    rw (p.1, p.2)
    (passed_first _ c.in_ok-judge_states.ensures
    (passed_first _ c.in_ok-judge_links.ensures (refused_first _ _ c.in_err-judge_service_links.ensures)))

-- what the fill bits and the end tell is told
pub returns-then-not-end_right : goal.returns-then-not-end_right
unfolding body_faults list_faults
returns-then-not-end_right g c =
    passed_first _ c.in_ok-judge_states.ensures
    (passed_first _ c.in_ok-judge_links.ensures
    (passed_first _ c.in_ok-judge_service_links.ensures (tells _ (ap not (sym c.end_right.ensures ∙ c.if-not-end_right.true)))))

pub returns : goal.returns
unfolding body_faults list_faults
returns g c =
    passed_first _ c.in_ok-judge_states.ensures
    (passed_first _ c.in_ok-judge_links.ensures
    (passed_first _ c.in_ok-judge_service_links.ensures (end_at_lem ∙ passes 7 _ (ap not (sym c.end_right.ensures ∙ c.if-not-end_right.false)))))
