-- `is_candidate` looks for a marked slot of a block. Assumes nothing.
use mathlib.Core.Path.{◌∙◌}
use native.Mathlib.Nat.{add-sub_cancel_left}
use Rattle.network.specs.Rows.{block_marked}
use Rattle.network.proofs.is_candidate.Goals as goal

pub returns : goal.returns
unfolding block_marked
returns c = c.marks_any.ensures ∙ rw (c.block_range.ensures, add-sub_cancel_left)
