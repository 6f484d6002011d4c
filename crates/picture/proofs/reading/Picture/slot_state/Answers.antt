-- `slot_state` reads a slot's state. Assumes nothing.
use Rattle.picture.proofs.Facts.{read_picture, read_slot, read_state_most}
use Rattle.picture.proofs.reading.Picture.slot_state.Goals as goal

pub state_of-requires : goal.state_of-requires
state_of-requires c =
    let r = c.self.invariant in
    let p = read_slot _ _ r _ (rw (← c.self.view_is) at c.requires) in
    (p.0, p.1, p.2, read_state_most _ _ r _ p.1 p.2)

pub returns : goal.returns
returns c = rw (← c.self.view_is, ← read_picture _ _ c.self.invariant) c.state_of.ensures
