-- `walk_over` gives the forest. Assumes nothing.
use Rattle.std.proofs.Common.{inl, inr, rules, arith}
use Rattle.graph.proofs.Walks.{begun, held_narrow, frontier_locations, frontier_narrow, next, ended}
use Rattle.graph.proofs.walk_over.Goals as goal
use Rattle.graph.proofs.walk_over.Goals.{else-loop-depth-test, then-loop-depth-test+then-none_marked}

pub loop-depth-init : goal.loop-depth-init
loop-depth-init c = begun c.requires c.words_for-words.ensures (search rules)

pub none_marked-requires : goal.none_marked-requires
none_marked-requires c = frontier_narrow c.loop-depth.invariant

pub sweep_frontier-requires-clause-locations : goal.sweep_frontier-requires-clause-locations
sweep_frontier-requires-clause-locations c = (frontier_locations c.loop-depth.invariant, frontier_narrow c.loop-depth.invariant)

pub loop-depth-preserved : goal.loop-depth-preserved
loop-depth-preserved c = next c.loop-depth.invariant c.sweep_frontier.ensures c.differ-frontier.ensures

pub differ-walker-requires : goal.differ-walker-requires
differ-walker-requires c = (held_narrow c.loop-depth.invariant, c.loop-depth.invariant.ready.narrow)

pub returns : goal.returns
returns c =
    ended c.loop-depth.invariant (search rules) c.differ-walker.ensures
    (elim c.loop-depth-test.branch [
      | else-loop-depth-test w ↦ inr (omega arith)
      | then-loop-depth-test+then-none_marked w ↦ inl (w.none_marked.ensures.empty (rw w.if-none_marked.true tt))
    ])
