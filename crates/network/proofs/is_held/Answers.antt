-- `is_held` tests a slot's state. Assumes nothing.
use Rattle.picture.specs.declared.State.TheVariants.{Held}
use Rattle.picture.proofs.States.{same_number}
use Rattle.network.proofs.Candidates.{held_state}
use Rattle.network.proofs.is_held.Goals as goal

pub returns : goal.returns
returns c = rw (c.eq.ensures, same_number c.slot_state.result Held, c.slot_state.ensures) (held_state _ _ c.requires.0)
