-- `put_nodes` writes the nodes, slot by slot. Assumes nothing.
use Prim.Native.Nat.{◌*◌}
use Rattle.packing.specs.Holding.{Put}
use Rattle.evidence.specs.Canonical.{forest_fields}
use Rattle.choose.specs.Writing.{nodes_in}
use Rattle.choose.proofs.put_nodes.Given as goal

abbrev pub invariant-loop-v : goal.invariant-loop-v
invariant-loop-v g l = Put l.initial.buf (l.at * 8) (forest_fields l.fn.h.edition (nodes_in l.forest l.v)) l.buf
