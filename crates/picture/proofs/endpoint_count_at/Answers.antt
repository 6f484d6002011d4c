-- `endpoint_count_at` adds the widths before D. Assumes nothing.
use native.Mathlib.Omega.{arith}
use Rattle.lists.specs.Lists.{sum}
use Rattle.picture.specs.Layout.{header_widths}
use Rattle.picture.proofs.Editions.{widths}
use Rattle.picture.proofs.endpoint_count_at.Goals as goal

pub overflow_add-result : goal.overflow_add-result
overflow_add-result c = omega (arith, widths c.requires)

pub overflow_add-result-2 : goal.overflow_add-result-2
overflow_add-result-2 c = omega (arith, widths c.requires)

pub returns : goal.returns
unfolding header_widths sum
returns c = omega arith
