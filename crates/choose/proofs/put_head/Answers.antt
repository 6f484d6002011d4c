-- `put_head` writes the fields of the head. Assumes nothing.
use mathlib.Core.Path.{refl}
use Rattle.lists.specs.Lists.{sum}
use Rattle.packing.specs.Packing.{fields_of}
use Rattle.packing.specs.Holding.{span}
use Rattle.packing.proofs.Putting.{puts_none, puts_next}
use Rattle.evidence.specs.Layout.{head_widths}
use Rattle.evidence.specs.Canonical.{head_fields}
use Rattle.choose.proofs.put_head.Goals as goal

pub returns : goal.returns
unfolding head_fields head_widths fields_of span sum
returns c =
    let p = c.requires in
    puts_next p.edition c.put_field.ensures refl
    (puts_next p.verdict (rw c.verdict_of.ensures at c.put_field-2.ensures) refl
    (puts_next p.block (rw c.chosen_block.ensures at c.put_field-3.ensures) refl
    (puts_next p.few c.put_field-4.ensures refl
    (puts_next p.weight c.put_field-5.ensures refl
    (puts_next p.loss (rw c.chosen_loss.ensures at c.put_field-6.ensures) refl puts_none))))) p.room
