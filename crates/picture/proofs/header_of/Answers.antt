-- `header_of_lem` reads the header's numbers by the bytes' own edition. Assumes nothing.
use mathlib.Core.Path.{ap, ◌∙◌, subst, sym}
use Rattle.picture.specs.declared.Edition.{Edition}
use Rattle.picture.specs.Layout.{edition_for, edition_number}
use Rattle.picture.specs.Picture.{header_in, header_of}
use Rattle.picture.specs.Inner.{Known}
use Rattle.picture.proofs.Editions.{known_for}
use Rattle.picture.proofs.header_of.Goals as goal

pub header_in-requires : goal.header_in-requires
header_in-requires c = subst Known (sym c.edition_for.ensures) (known_for _)

pub returns : goal.returns
unfolding header_of edition_number
returns c =
    let bs = c.args.s.now in
    c.header_in.ensures ∙ ap (λ (e : Edition). header_in e bs) (c.edition_for.ensures ∙ ap edition_for c.field.ensures)
