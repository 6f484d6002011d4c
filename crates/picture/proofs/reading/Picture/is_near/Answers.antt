-- `is_near` reads a slot's near mark. Assumes nothing.
use Rattle.picture.proofs.Facts.{read_picture, read_slot}
use Rattle.picture.proofs.reading.Picture.is_near.Goals as goal

pub slot_near-requires : goal.slot_near-requires
slot_near-requires c = read_slot _ _ c.self.invariant _ (rw (← c.self.view_is) at c.requires)

pub returns : goal.returns
returns c = rw (← c.self.view_is, ← read_picture _ _ c.self.invariant) c.slot_near.ensures
