-- `held_or_recoverable` marks the slots that are held or recoverable. Assumes nothing.
use Rattle.picture.specs.Picture.{picture_of}
use Rattle.network.proofs.Making.{Above}
use Rattle.acts.specs.Acts.{held_or_recoverable}
use Rattle.acts.proofs.held_or_recoverable.Given as goal

abbrev pub invariant-loop-v : goal.invariant-loop-v
invariant-loop-v l = Above (held_or_recoverable (picture_of l.p)) l.slots l.v
