-- `head_of` reads the head. Assumes nothing.
use Rattle.lists.specs.Lists.{sum}
use Rattle.picture.specs.Layout.{field_in}
use Rattle.evidence.specs.Layout.{head_widths}
use Rattle.evidence.specs.Contents.{head_in}
use Rattle.evidence.proofs.head_of.Goals as goal

pub returns : goal.returns
unfolding head_in field_in head_widths sum
returns c = cc
