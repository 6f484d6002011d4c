-- `state_of` reads a state that is one of the three. Assumes nothing.
use mathlib.Core.Path.{ap, ◌∙◌}
use Rattle.picture.specs.Faults.{state_fault}
use Rattle.picture.proofs.Judging.{state_right}
use Rattle.picture.proofs.States.{state_read, state_of_read}
use Rattle.picture.proofs.state_of.Goals as goal

pub unwrap-requires : goal.unwrap-requires
unwrap-requires c = state_read _ _ c.try_from.ensures (ap state_fault c.slot_state.ensures ∙ state_right _ c.requires.3)

pub returns : goal.returns
returns c = state_of_read c.unwrap.ensures c.try_from.ensures ∙ c.slot_state.ensures
