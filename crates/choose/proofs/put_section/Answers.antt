-- `put_section` writes the fields of a section. Assumes nothing.
use mathlib.Core.Path.{refl}
use native.Mathlib.Omega.{arith}
use Rattle.packing.specs.Packing.{fields_of}
use Rattle.packing.specs.Holding.{span}
use Rattle.packing.proofs.Putting.{put_behind, put_same, puts_none, puts_next}
use Rattle.evidence.specs.Layout.{section_head_widths}
use Rattle.choose.specs.Writing.{array_section}
use Rattle.choose.proofs.put_section.Goals as goal

pub returns : goal.returns
unfolding array_section section_head_widths fields_of span
returns c =
    let p = c.requires in
    put_behind _ _ _
    (puts_next p.block c.put_field.ensures refl
    (puts_next p.loss c.put_field-2.ensures refl
    (puts_next p.mark c.put_field-3.ensures (omega arith) puts_none)) (omega (arith, p.forest)))
    (put_same c.put_forest.ensures (omega arith) refl)
