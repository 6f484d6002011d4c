-- What `blockplan_price` answers is told by the number of the first fault. Assumes nothing.
use mathlib.Core.Path.{◌∙◌}
use Rattle.std.proofs.lemmas.Int.{to_z-of_z}
use Rattle.blockplan_c.proofs.Prices.{into_told}
use Rattle.blockplan_c.proofs.blockplan_price.Goals as goal

pub returns-clause-answer : goal.returns-clause-answer
returns-clause-answer c = to_z-of_z _ _ c.done_number.ensures.fits ∙ c.done_number.ensures.number ∙ rw c.and.ensures (into_told _ _ _ _ c.price_into.ensures)
