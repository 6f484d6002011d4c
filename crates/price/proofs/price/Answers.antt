-- `price` prices the blocks of any bytes from records of any bytes. Assumes nothing.
use native.Mathlib.Omega.{arith}
use Rattle.std.proofs.lemmas.Result.{err_from_is_err_and}
use Rattle.picture.proofs.Facts.{read_limited}
use Rattle.picture.proofs.Refusing.{answered_err, numbers_err}
use Rattle.network.proofs.Blocks.{read_endpoints}
use Rattle.price.specs.Rules.{Whole}
use Rattle.price.specs.Answers.{pricing}
use Rattle.price.proofs.Answering.{price_faulty, price_strays, price_odd, price_added}
use Rattle.price.proofs.price.Goals as goal
use Rattle.price.proofs.price.Goals.{Joined-then-records-ne0, then-records-ne0-via-then-records-ne0, then-records-ne0-via-else-records-ne0+then-records}

pub returns-in_err-p : goal.returns-in_err-p
unfolding pricing
returns-in_err-p c =
    let p = err_from_is_err_and c.from_residual.result c.from_residual.ensures.1 in
    let k = price_faulty _ c.args.records.now _ c.in_err-p.ensures in
    rw (p.1, p.2) (record { answer = answered_err _ _ k; numbers = numbers_err (λ cs. cs) _ _ k })

pub returns-in_err-reached : goal.returns-in_err-reached
unfolding pricing
returns-in_err-reached c =
    let p = err_from_is_err_and c.from_residual-in_err-reached.result c.from_residual-in_err-reached.ensures.1 in
    let k = price_strays _ c.args.records.now (c.in_ok-p.ensures.1) _ (rw c.in_ok-p.ensures.0 at c.in_err-reached.ensures) in
    rw (p.1, p.2) (record { answer = answered_err _ _ k; numbers = numbers_err (λ cs. cs) _ _ k })

-- the length is no multiple of three, or too large
odd : (c : Joined-then-records-ne0) → ¬ Whole c.args.records.now
odd c w =
    elim c.then-records-ne0.branch [
      | then-records-ne0-via-then-records-ne0 v ↦ absurd (v.if-records-ne0.true w.multiple)
      | then-records-ne0-via-else-records-ne0+then-records v ↦ absurd (omega (arith, v.if-records.true, w.most))
    ]

pub returns-then-records-ne0 : goal.returns-then-records-ne0
unfolding pricing
returns-then-records-ne0 c =
    let f = rw c.in_ok-p.ensures.0 at c.in_ok-reached.ensures.0 in
    let k = price_odd _ c.args.records.now (c.in_ok-p.ensures.1) f (odd c) in
    record { answer = answered_err _ _ k; numbers = numbers_err (λ cs. cs) _ _ k }

pub add_up-requires : goal.add_up-requires
add_up-requires c = (c.if-records.false, (read_limited _ _ c.header.ensures).counts.endpoints_most)

pub returns : goal.returns
returns c =
    let same = c.in_ok-p.ensures.0 in
    let z = c.in_ok-p.ensures.1 in
    let f = rw same at c.in_ok-reached.ensures.0 in
    let r = rw same at c.header.ensures in
    let a = price_added _ c.args.records.now z f (record { multiple = c.if-records-ne0.false; most = c.if-records.false }) (rw same at c.endpoint_feeders-feeders.ensures) _
    (rw (read_endpoints _ _ r) at c.add_up.ensures) in
    record { answer = a.0; numbers = a.1 }
