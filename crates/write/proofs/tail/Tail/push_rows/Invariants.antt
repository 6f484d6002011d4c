-- Rows are written one behind the other. Assumes nothing.
use mathlib.Core.Path.{◌≡◌}
use mathlib.Core.List.{List}
use Prim.Native.Nat.{◌+◌, ◌*◌}
use lib.ListN.{take}
use Rattle.lists.specs.Lists.{flat}
use Rattle.packing.specs.Packing.{Field}
use Rattle.write.specs.Tails.{RowsAre, Follows}
use Rattle.write.proofs.tail.Tail.push_rows.Given as goal

-- as many rows are written as were read, whatever list has them
abbrev pub invariant-loop-i : goal.invariant-loop-i
invariant-loop-i g l =
    record {
      place : l.tail.at ≡ l.fn.self.at + l.i * (l.first_bits + l.second_bits);
      rows : (rows : List (List Field)) → RowsAre l.first_bits l.second_bits l.count (goal.F-post g l.row) rows
          → Follows l.initial.buf l.fn.self (flat (take l.i rows)) l.buf l.tail;
    }
