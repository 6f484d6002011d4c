-- A field is written. Assumes nothing.
use mathlib.Core.Path.{refl}
use Rattle.write.proofs.Tails.{follows_one}
use Rattle.write.proofs.tail.Tail.push.Goals as goal

pub returns-clause-follows : goal.returns-clause-follows
returns-clause-follows c = follows_one c.requires (record { end = refl; same = c.push_field-held.ensures.same })
