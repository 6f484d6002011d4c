-- `slots_at` adds the widths of the header. Assumes nothing.
use native.Mathlib.Omega.{arith}
use Rattle.lists.specs.Lists.{sum}
use Rattle.picture.specs.Layout.{header_widths, slots_at}
use Rattle.picture.proofs.Editions.{widths}
use Rattle.picture.proofs.slots_at.Goals as goal

pub endpoint_count_at-requires : goal.endpoint_count_at-requires
endpoint_count_at-requires c = c.requires

pub overflow_add-result : goal.overflow_add-result
unfolding header_widths sum
overflow_add-result c = omega (arith, c.endpoint_count_at.ensures, widths c.requires)

pub returns : goal.returns
unfolding slots_at header_widths sum
returns c = omega (arith, c.endpoint_count_at.ensures)
