-- `walk_over` gives the forest: the levels below the depth are walked. Assumes nothing.
use Rattle.graph.proofs.Walks.{Walking}
use Rattle.graph.proofs.walk_over.Given as goal

abbrev pub invariant-loop-depth : goal.invariant-loop-depth
invariant-loop-depth l = Walking l.block l.links l.held l.n l.words l.depth l.frontier l.walker
