-- `edition_for` tells the second edition, or the first. Assumes nothing.
use borrow.Author.Tests.{eq-eqb, ne_eqb}
use Rattle.picture.specs.Layout.{edition_for}
use Rattle.picture.proofs.edition_for.Goals as goal

pub returns-then-number-eq2 : goal.returns-then-number-eq2
unfolding edition_for
returns-then-number-eq2 c = rw (eq-eqb _ _ c.if-number-eq2.true)

pub returns : goal.returns
unfolding edition_for
returns c = rw (ne_eqb _ _ c.if-number-eq2.false)
