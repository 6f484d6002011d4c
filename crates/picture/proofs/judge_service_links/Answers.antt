-- `judge_service_links` finds the first service link that names what is not there. Assumes nothing.
use mathlib.Core.Path.{refl}
use native.Mathlib.Omega.{arith}
use Rattle.std.proofs.lemmas.Result.{err_from_is_err_and}
use Rattle.picture.proofs.Starts.{services_length}
use Rattle.picture.proofs.Finding.{scanning_begun, scanning_hit, scanning_miss, scanning_ended}
use Rattle.picture.proofs.Refusing.{number_some}
use Rattle.picture.proofs.judge_service_links.Goals as goal

pub loop-i-init : goal.loop-i-init
loop-i-init g c = scanning_begun (services_length _ _)

pub returns-in_err-judge_service_link : goal.returns-in_err-judge_service_link
returns-in_err-judge_service_link g c =
    let p = err_from_is_err_and c.from_residual.result c.from_residual.ensures.1 in
    rw (p.1, p.2) (scanning_hit c.loop-i.invariant (omega arith) c.nth_service_link.ensures c.in_err-judge_service_link.ensures (number_some _))

pub loop-i-preserved : goal.loop-i-preserved
loop-i-preserved g c = scanning_miss c.loop-i.invariant (omega arith) c.nth_service_link.ensures c.in_ok-judge_service_link.ensures refl

pub returns : goal.returns
returns g c = scanning_ended c.loop-i.invariant (omega arith)
