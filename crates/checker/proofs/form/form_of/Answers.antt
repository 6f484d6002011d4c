-- `form_of` goes over the blocks and finds the candidates. Assumes nothing.
use mathlib.Core.Path.{sym, ◌∙◌}
use Rattle.checker.proofs.Forms.{forming_begun, forming_miss, forming_hit}
use Rattle.checker.proofs.form.form_of.Goals as goal
use Rattle.checker.proofs.form.form_of.Goals.{then-is_candidate+else-not-section_right, else-is_candidate}

pub loop-b-init : goal.loop-b-init
loop-b-init c = forming_begun _ _ _ _ _

pub loop-b-preserved : goal.loop-b-preserved
loop-b-preserved c =
    let i = c.loop-b.invariant in
    let e = sym c.is_candidate.ensures in
    elim c.if-is_candidate.branch [
      | then-is_candidate+else-not-section_right w ↦ rw w.count-is (forming_hit _ _ _ _ _ i (e ∙ w.if-is_candidate.true) (sym w.section_right.ensures ∙ w.if-not-section_right.false))
      | else-is_candidate w ↦ rw w.count-is (forming_miss _ _ _ _ _ i (e ∙ w.if-is_candidate.false))
    ]
