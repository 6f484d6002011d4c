-- `choose` answers for any bytes and any buffer. Assumes nothing.
use mathlib.Core.Path.{sym}
use Prim.Native.Nat.{◌≤◌}
use lib.ListN.{length}
use native.Mathlib.Omega.{arith}
use Rattle.std.proofs.lemmas.Result.{err_from_is_err_and}
use Rattle.picture.proofs.Refusing.{answered_ok, answered_err, numbers_ok, numbers_err}
use Rattle.picture.specs.declared.refusals.Refusal.TheVariants.{Buffer}
use Rattle.evidence.specs.Calls.{length_for}
use Rattle.evidence.proofs.Lengths.{choose_takes}
use Rattle.choose.specs.Answers.{choosing}
use Rattle.choose.proofs.Answering.{choose_faulty, choose_short, choose_leaves, choose_writes}
use Rattle.choose.proofs.choose.Goals as goal

pub returns-in_err-p : goal.returns-in_err-p
unfolding choosing
returns-in_err-p c =
    let p = err_from_is_err_and c.from_residual.result c.from_residual.ensures.1 in
    let k = choose_faulty _ c.args.buf.now _ c.in_err-p.ensures in
    rw (p.1, p.2) (record { answer = answered_err _ _ k; numbers = numbers_err _ _ _ k; bytes = choose_leaves _ _ _ k })

pub returns-then-buf-plan : goal.returns-then-buf-plan
unfolding choosing
returns-then-buf-plan c =
    let long = rw c.in_ok-p.ensures.0 at c.make_plan-plan.ensures.long in
    let k = choose_short _ _ c.in_ok-p.ensures.1 (omega (arith, long, c.if-buf-plan.true)) in
    record { answer = answered_err _ Buffer k; numbers = numbers_err _ _ Buffer k; bytes = choose_leaves _ _ Buffer k }

pub write_evidence-requires : goal.write_evidence-requires
write_evidence-requires c = record { planned = c.make_plan-plan.ensures; room = c.if-buf-plan.false }

pub returns : goal.returns
unfolding choosing
returns c =
    let long = rw c.in_ok-p.ensures.0 at c.make_plan-plan.ensures.long in
    let z = c.in_ok-p.ensures.1 in
    let room : length_for c.args.s.now ≤ length c.args.buf.now = omega (arith, long, c.if-buf-plan.false) in
    let k = sym (choose_takes _ _ z room) in
    let written = rw c.in_ok-p.ensures.0 at c.write_evidence.ensures in
    record { answer = answered_ok k long; numbers = numbers_ok _ k long; bytes = choose_writes _ _ z room written }
