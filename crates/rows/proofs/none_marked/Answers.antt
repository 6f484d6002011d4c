-- `none_marked` tells whether a row marks anything. Assumes nothing.
use Rattle.std.proofs.Common.{arith}
use Rattle.rows.proofs.Marks.{narrow_none, some_marked}
use Rattle.rows.proofs.none_marked.Goals as goal

pub returns-then-row-i-ne0 : goal.returns-then-row-i-ne0
returns-then-row-i-ne0 c =
    record { empty = λ t. absurd t; some = λ _. some_marked _ c.loop-i.i c.if-is_end.element_fits.fits c.if-row-i-ne0.true }

pub returns-after-loop-i : goal.returns-after-loop-i
returns-after-loop-i c = record { empty = λ _. narrow_none c.requires (omega (arith, c.requires.most)) c.loop-i.invariant; some = λ t. absurd t }

pub returns-then-is_end : goal.returns-then-is_end
returns-then-is_end c =
    record { empty = λ _. narrow_none c.requires (c.is_end.ensures c.if-is_end.true) c.loop-i.invariant; some = λ t. absurd t }
