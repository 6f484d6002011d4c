-- `check` tells the first fault. Assumes nothing.
use Rattle.std.proofs.lemmas.Result.{err_from_is_err_and}
use Rattle.std.proofs.Common.{rules}
use Rattle.picture.proofs.Refusing.{answered_err, numbers_err, judged_answer, judged_numbers}
use Rattle.checker.specs.Answers.{checking}
use Rattle.checker.proofs.Answering.{check_picture}
use Rattle.checker.proofs.check.Goals as goal

pub returns-in_err-p : goal.returns-in_err-p
unfolding checking
returns-in_err-p c =
    let p = err_from_is_err_and c.from_residual.result c.from_residual.ensures.1 in
    let k = check_picture _ c.args.ev.now _ c.in_err-p.ensures in
    rw (p.1, p.2) (record { answer = answered_err _ _ k; numbers = numbers_err _ _ _ k })

pub returns : goal.returns
unfolding checking
returns c = record { answer = judged_answer _ (search rules); numbers = judged_numbers _ (search rules) }
