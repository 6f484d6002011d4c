-- `judge_states` finds the first slot without one of the three states. Assumes nothing.
use mathlib.Core.Path.{refl, sym, ap, ◌∙◌}
use native.Mathlib.Omega.{arith}
use Rattle.std.proofs.lemmas.Result.{err_from_is_err_and}
use Rattle.picture.specs.Picture.{slot_of}
use Rattle.picture.specs.Faults.{state_fault}
use Rattle.picture.proofs.Starts.{item_next, slots_length}
use Rattle.picture.proofs.Finding.{scanning_begun, scanning_hit, scanning_miss, scanning_ended}
use Rattle.picture.proofs.Refusing.{number_some}
use Rattle.picture.proofs.judge_states.Goals as goal

pub loop-i-init : goal.loop-i-init
loop-i-init c = scanning_begun (slots_length _ _)

pub returns-in_err-try_from : goal.returns-in_err-try_from
unfolding slot_of
returns-in_err-try_from c =
    let p = err_from_is_err_and c.from_residual.result c.from_residual.ensures.1 in
    rw (p.1, p.2)
    (scanning_hit c.loop-i.invariant (omega arith) refl (c.in_err-try_from.ensures ∙ ap state_fault (rw item_next at c.slot_state.ensures)) (number_some _))

pub loop-i-preserved : goal.loop-i-preserved
unfolding slot_of
loop-i-preserved c =
    scanning_miss c.loop-i.invariant (omega arith) refl (sym c.in_ok-try_from.ensures.1 ∙ ap state_fault (rw item_next at c.slot_state.ensures)) refl

pub returns : goal.returns
returns c = scanning_ended c.loop-i.invariant (omega arith)
