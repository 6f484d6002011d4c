-- `apply` does an act on a block of any bytes, or refuses it. Assumes nothing.
use mathlib.Core.Path.{refl, sym, ◌∙◌}
use Rattle.std.proofs.lemmas.Result.{err_from_is_err_and}
use Rattle.picture.proofs.Refusing.{answered_ok, answered_err, numbers_ok, numbers_err}
use Rattle.acts.specs.Answers.{acting}
use Rattle.acts.proofs.Answering.{faulty_picture, refused_bytes}
use Rattle.acts.proofs.Judged.{done_doable, done_bytes_lem}
use Rattle.acts.proofs.apply.Goals as goal

pub returns-in_err-p : goal.returns-in_err-p
unfolding acting
returns-in_err-p c =
    let p = err_from_is_err_and c.from_residual.result c.from_residual.ensures.1 in
    let k = faulty_picture c.args.a _ c.args.b _ c.in_err-p.ensures in
    rw (p.1, p.2) (record { answer = answered_err _ _ k; numbers = numbers_err _ _ _ k; bytes = refused_bytes _ _ _ _ k })

pub returns-in_err-judge : goal.returns-in_err-judge
unfolding acting
returns-in_err-judge c =
    let p = err_from_is_err_and c.from_residual-in_err-judge.result c.from_residual-in_err-judge.ensures.1 in
    let k = rw c.in_ok-p.ensures.0 at c.in_err-judge.ensures in
    rw (p.1, p.2) (record { answer = answered_err _ _ k; numbers = numbers_err _ _ _ k; bytes = refused_bytes _ _ _ _ k })

pub put_states-requires : goal.put_states-requires
put_states-requires c =
    let k = rw c.in_ok-p.ensures.0 at c.in_ok-judge.ensures in
    (rw c.in_ok-p.ensures.0 at c.header-h.ensures, (done_doable _ _ _ (sym k)).there)

pub returns : goal.returns
unfolding acting
returns c =
    let k = rw c.in_ok-p.ensures.0 at c.in_ok-judge.ensures in
    record { answer = answered_ok k refl; numbers = numbers_ok _ k refl; bytes = c.put_states.ensures ∙ sym (done_bytes_lem _ _ _ (sym k)) }
