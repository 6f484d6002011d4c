-- `sweep_row` sweeps one row. Assumes nothing.
use Rattle.std.proofs.Common.{arith}
use Rattle.graph.proofs.Frontiers.{row_locations}
use Rattle.graph.proofs.Takes.{begun, next, ended}
use Rattle.graph.proofs.Walker.sweep_row.Goals as goal

pub loop-k-init : goal.loop-k-init
loop-k-init c = begun c.requires

pub sweep_at-requires : goal.sweep_at-requires
sweep_at-requires c =
    let l = c.loop-k in
    let ready = l.invariant.swept.ready in
    (row_locations l.self.fresh l.k ready.locations, ready.whole, omega arith)

pub loop-k-preserved : goal.loop-k-preserved
loop-k-preserved c = next c.loop-k.invariant (omega arith) c.sweep_at.ensures

pub returns-after-loop-k : goal.returns-after-loop-k
returns-after-loop-k c = ended c.loop-k.invariant c.requires (omega (arith, c.requires.narrow.most))

pub returns-then-is_end : goal.returns-then-is_end
returns-then-is_end c = ended c.loop-k.invariant c.requires (c.is_end.ensures c.if-is_end.true)
