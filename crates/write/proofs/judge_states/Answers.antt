-- `judge_states` finds the first state that is none of the three. Assumes nothing.
use mathlib.Core.Path.{refl, sym, ap, ◌∙◌}
use native.Mathlib.Omega.{arith}
use Rattle.std.proofs.lemmas.Result.{err_from_is_err_and}
use Rattle.picture.specs.Faults.{state_fault}
use Rattle.picture.proofs.Finding.{scanning_begun, scanning_hit, scanning_miss, scanning_ended}
use Rattle.picture.proofs.Refusing.{number_some}
use Rattle.write.proofs.judge_states.Goals as goal

pub loop-state-init : goal.loop-state-init
loop-state-init c = scanning_begun refl

pub returns-in_err-try_from : goal.returns-in_err-try_from
returns-in_err-try_from c =
    let p = err_from_is_err_and c.from_residual.result c.from_residual.ensures.1 in
    rw (p.1, p.2) (scanning_hit c.loop-state.invariant (omega arith) refl (c.in_err-try_from.ensures ∙ ap state_fault c.from.ensures) (number_some _))

pub loop-state-preserved : goal.loop-state-preserved
loop-state-preserved c =
    scanning_miss c.loop-state.invariant (omega arith) refl (sym c.in_ok-try_from.ensures.1 ∙ ap state_fault c.from.ensures) refl

pub returns : goal.returns
returns c = scanning_ended c.loop-state.invariant (omega arith)
