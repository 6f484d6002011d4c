-- `enter` gives the slots of a word their entries: what is done of the word is entered. Assumes nothing.
use Rattle.graph.proofs.Entries.{Entering}
use Rattle.graph.proofs.Forest.enter.Given as goal

abbrev pub invariant-loop-w : goal.invariant-loop-w
invariant-loop-w l = Entering l.word l.base l.u l.d l.w l.initial.self l.self

abbrev pub decreases-loop-w : goal.decreases-loop-w
decreases-loop-w l = l.w
