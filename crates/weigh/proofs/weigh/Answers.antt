-- `weigh` weighs a block of any bytes. Assumes nothing.
use native.Mathlib.Omega.{arith}
use Rattle.std.proofs.lemmas.Result.{err_from_is_err_and}
use Rattle.picture.proofs.Facts.{read_sizes}
use Rattle.picture.proofs.Refusing.{answered_ok, answered_err, numbers_ok, numbers_err}
use Rattle.network.proofs.Blocks.{read_blocks}
use Rattle.weigh.specs.Weighing.{weighing, weight_values}
use Rattle.weigh.proofs.Answering.{weigh_faulty, weigh_no_block, weigh_told}
use Rattle.weigh.proofs.weigh.Goals as goal

pub returns-in_err-p : goal.returns-in_err-p
unfolding weighing
returns-in_err-p c =
    let p = err_from_is_err_and c.from_residual.result c.from_residual.ensures.1 in
    let k = weigh_faulty _ c.args.b _ c.in_err-p.ensures in
    rw (p.1, p.2) (record { answer = answered_err _ _ k; numbers = numbers_err weight_values _ _ k })

pub nonzero_div-h : goal.nonzero_div-h
nonzero_div-h c = omega (arith, (read_sizes _ _ c.header-h.ensures).size_some)

pub returns-then-h-b : goal.returns-then-h-b
unfolding weighing
returns-then-h-b c =
    let r = rw c.in_ok-p.ensures.0 at c.header-h.ensures in
    let k = weigh_no_block _ _ r.accepted (rw (← read_blocks _ _ r) c.if-h-b.true) in
    record { answer = answered_err _ _ k; numbers = numbers_err weight_values _ _ k }

pub weigh_block-requires : goal.weigh_block-requires
weigh_block-requires c = rw (← read_blocks _ _ c.header-h.ensures) c.if-h-b.false

pub returns : goal.returns
unfolding weighing
returns c =
    let r = rw c.in_ok-p.ensures.0 at c.header-h.ensures in
    let k = weigh_told _ _ r.accepted (rw (← read_blocks _ _ r) c.if-h-b.false) in
    let w = rw c.in_ok-p.ensures.0 at c.weigh_block.ensures in
    record { answer = answered_ok k w; numbers = numbers_ok weight_values k w }
