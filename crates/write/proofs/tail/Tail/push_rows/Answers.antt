-- Rows are written one behind the other. Assumes nothing.
use native.Mathlib.Omega.{arith}
use Rattle.packing.specs.Packing.{fields_of}
use Rattle.packing.specs.Holding.{span}
use Rattle.write.proofs.Tails.{rows_begun, rows_next}
use Rattle.write.proofs.tail.Tail.push_rows.Goals as goal

pub loop-i-init : goal.loop-i-init
loop-i-init g c = record { place = omega arith; rows = λ rows are. rows_begun _ _ rows }

pub loop-i-preserved : goal.loop-i-preserved
unfolding fields_of span
loop-i-preserved g c =
    record {
      place = omega (arith, c.push_pair-tail.ensures.end);
      rows = λ rows are.
          rows_next rows (c.loop-i.invariant.rows rows are) (omega (arith, are.count)) (are.row _ _ c.loop-i-test.true c.row-first.ensures)
          c.push_pair-tail.ensures;
    }
