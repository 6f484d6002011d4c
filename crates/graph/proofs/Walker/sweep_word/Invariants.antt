-- `sweep_word` sweeps the rows of a word's locations: the rows of what is done of the word are swept. Assumes nothing.
use Rattle.graph.proofs.Frontiers.{WordSweeping}
use Rattle.graph.proofs.Walker.sweep_word.Given as goal

abbrev pub invariant-loop-w : goal.invariant-loop-w
invariant-loop-w l = WordSweeping l.level l.links l.word l.base l.w l.initial.self l.self

abbrev pub decreases-loop-w : goal.decreases-loop-w
decreases-loop-w l = l.w
