-- The lines that the evidence of an accepted picture tells are its listing. Assumes nothing.
use mathlib.Core.Path.{◌≡◌, sym, ap, ◌∙◌}
use mathlib.Core.List.{List, map}
use Prim.Native.Nat.{ℕ}
use lib.ListN.{length, get_or}
use Rattle.lists.specs.Lists.{flat}
use Rattle.picture.specs.declared.Header.{Header}
use Rattle.picture.specs.declared.Edition.{Edition}
use Rattle.picture.specs.Layout.{edition_of}
use Rattle.picture.proofs.Facts.{read_edition}
use Rattle.picture.specs.Picture.{Picture, picture_of}
use Rattle.picture.specs.Inner.{Read}
use Rattle.network.specs.Words.{slot_count}
use Rattle.network.specs.Tests.{candidates}
use Rattle.network.proofs.Weights.{weighed_block}
use Rattle.network.proofs.Blocks.{read_slots}
use Rattle.evidence.specs.Canonical.{stated_of, weighings, evidence_of}
use Rattle.evidence.specs.Contents.{section_in}
use Rattle.evidence.proofs.Weighings.{weighings_made}
use Rattle.evidence.proofs.Held.{Reads, evidence_reads}
use Rattle.listing.specs.Listing.{block_line, plan_lines, listing, listing_of}
use Rattle.listing.specs.ByEvidence.{section_lines, evidence_lines}

module _ (e : Edition) (p : Picture) (ev : List ℕ) (r : Reads e p ev) where
  -- the lines of all sections are those of the candidates, in their order
  sections_told : section_lines e (slot_count p) ev (length (candidates p)) ≡ flat (map (λ w. block_line (stated_of w)) (weighings p))
  unfolding section_lines
  sections_told =
      ap flat
      (weighings_made p (λ w. block_line (stated_of w)) (λ i. block_line (section_in e (slot_count p) ev i))
      (λ i h.
      let b = r.blocks i h ∙ sym (weighed_block p (get_or (candidates p) i 0)) in
      ap block_line (λ j. record { block = b j; loss = r.losses i h j; mark = r.marks i h j })))

  -- with the served weight and the choice
  lines_told : evidence_lines e (slot_count p) ev ≡ plan_lines p
  unfolding evidence_lines plan_lines
  lines_told = rw (r.served, r.count, sections_told, r.verdict, r.block, r.loss)

-- so what the evidence of accepted bytes tells is their listing
pub evidence_listed : {bs : List ℕ} {h : Header} → Read bs h → evidence_lines h.edition h.slots (evidence_of bs) ≡ listing bs
unfolding listing listing_of
evidence_listed {bs} {h} r =
    let ok = r.accepted in
    rw (← read_slots bs h r, read_edition bs h r, ok) (lines_told (edition_of bs) (picture_of bs) (evidence_of bs) (evidence_reads bs ok))
