-- `read` judges the bytes by their header. Assumes nothing.
use mathlib.Core.Path.{refl, sym, subst}
use Rattle.std.proofs.lemmas.Result.{err_from_is_err_and}
use Rattle.picture.specs.declared.Header.{Header}
use Rattle.picture.specs.Picture.{header_in, header_of}
use Rattle.picture.specs.Faults.{picture_fault}
use Rattle.picture.specs.Inner.{Known}
use Rattle.picture.proofs.Editions.{known_for}
use Rattle.picture.proofs.reading.Picture.read.Goals as goal

pub judge-requires : goal.judge-requires
unfolding header_of header_in
judge-requires c = subst (λ (h : Header). Known h.edition) (sym c.header_of-header.ensures) (known_for _)

pub returns-in_err-judge : goal.returns-in_err-judge
unfolding picture_fault header_of
returns-in_err-judge c =
    let p = err_from_is_err_and c.from_residual.result c.from_residual.ensures.1 in
    rw (p.1, p.2) (rw c.header_of-header.ensures at c.in_err-judge.ensures)

pub invariant_of-result : goal.invariant_of-result
unfolding picture_fault header_of
invariant_of-result c = record { accepted = sym (rw c.header_of-header.ensures at c.in_ok-judge.ensures); header = c.header_of-header.ensures }

pub returns : goal.returns
unfolding picture_fault header_of
returns c = (refl, sym (rw c.header_of-header.ensures at c.in_ok-judge.ensures))
