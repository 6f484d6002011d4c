-- `read` answers by the first fault. Assumes nothing.
use mathlib.Core.Path.{sym, ◌∙◌, ap}
use Rattle.std.proofs.lemmas.Result.{err_from_is_err_and}
use Rattle.picture.specs.Picture.{header_of}
use Rattle.picture.specs.Faults.{picture_fault}
use Rattle.picture.specs.Answers.{reading, header_values}
use Rattle.picture.proofs.Refusing.{answered_ok, answered_err, numbers_ok, numbers_err}
use Rattle.picture.proofs.read.Goals as goal

pub returns-in_err-read : goal.returns-in_err-read
unfolding reading picture_fault header_of
returns-in_err-read c =
    let p = err_from_is_err_and c.from_residual.result c.from_residual.ensures.1 in
    let k = c.in_err-read.ensures in
    rw (p.1, p.2) (record { answer = answered_err _ _ k; numbers = numbers_err header_values _ _ k })

pub returns : goal.returns
unfolding reading picture_fault header_of
returns c =
    let k = sym c.in_ok-read.ensures.1 in
    let h = c.header.ensures.header ∙ ap header_of c.in_ok-read.ensures.0 in
    record { answer = answered_ok k h; numbers = numbers_ok header_values k h }
