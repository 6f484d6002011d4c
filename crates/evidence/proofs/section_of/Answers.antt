-- `section_of` reads what a section states. Assumes nothing.
use native.Mathlib.Omega.{arith}
use Rattle.std.proofs.lemmas.Grind.{common_steps}
use Rattle.lists.specs.Lists.{sum}
use Rattle.picture.specs.Layout.{field_in}
use Rattle.evidence.specs.Layout.{section_head_widths}
use Rattle.evidence.specs.Contents.{section_in}
use Rattle.evidence.proofs.section_of.Goals as goal

pub returns : goal.returns
unfolding section_in field_in section_head_widths sum
returns c = grind (arith, common_steps)
