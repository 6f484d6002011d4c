-- `number` reads an argument. Assumes nothing.
use Rattle.std.proofs.Common.{arith, sym, ◌∙◌}
use borrow.Author.Tests.{eqb-true, eqb-false}
use Rattle.generate.proofs.Arguments.{none_given, some_given, reading_next, reading_stopped, reading_ended}
use Rattle.generate.proofs.number.Goals as goal

pub returns-then-is_empty : goal.returns-then-is_empty
returns-then-is_empty c = none_given _ (eqb-true _ _ (sym c.if-is_empty.ensures))

pub loop-c-init : goal.loop-c-init
loop-c-init c = some_given _ (eqb-false _ _ (sym c.if-is_empty.ensures))

pub returns-in_err-n : goal.returns-in_err-n
returns-in_err-n c = c.from_residual.ensures ∙ reading_stopped _ _ _ (omega arith) c.loop-c.invariant (sym c.with_digit.ensures ∙ c.in_err-n.was)

pub loop-c-preserved : goal.loop-c-preserved
loop-c-preserved c = reading_next _ _ _ (omega arith) c.loop-c.invariant (sym c.with_digit.ensures ∙ c.in_ok-n.was)

pub returns : goal.returns
returns c = reading_ended _ _ _ (omega arith) c.loop-c.invariant
