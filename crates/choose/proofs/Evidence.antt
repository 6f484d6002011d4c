-- The evidence put together from its parts: its values fit, and the bytes that hold it are those of the specification. Assumes nothing.
use mathlib.Core.Path.{◌≡◌, refl}
use mathlib.Core.Bool.{Bool}
use mathlib.Core.List.{List, ◌++◌}
use Prim.Native.Nat.{ℕ, ◌+◌, ◌*◌, ◌≤◌, ◌<◌}
use native.Mathlib.Omega.{arith}
use lib.ListN.{length, get_or, drop}
use Rattle.std.specs.Prelude.{Option}
use Rattle.lists.specs.Lists.{sum}
use Rattle.packing.specs.Holding.{Put}
use Rattle.packing.proofs.Putting.{put_behind, put_ahead, put_same}
use Rattle.graph.specs.declared.Forest.{Forest}
use Rattle.graph.specs.Steps.{Walked}
use Rattle.picture.specs.declared.Header.{Header}
use Rattle.picture.specs.Picture.{picture_of}
use Rattle.picture.specs.Inner.{Read}
use Rattle.picture.proofs.Editions.{widths}
use Rattle.picture.proofs.Facts.{read_known, read_edition}
use Rattle.network.specs.Words.{is_held, joins}
use Rattle.network.specs.Tests.{served_weight, candidates}
use Rattle.network.proofs.Blocks.{read_slots}
use Rattle.network.specs.declared.Cost.{Cost}
use Rattle.evidence.specs.Layout.{head_widths, section_bytes}
use Rattle.evidence.specs.Canonical.{weighings, least, head_fields, forest_fields, evidence_fields, evidence_of}
use Rattle.evidence.specs.Calls.{length_for}
use Rattle.evidence.proofs.Places.{head_whole, forest_whole}
use Rattle.evidence.proofs.Fields.{head_of, nodes_of, sections_of, head_span, forest_span, candidates_few, served_small, choice_fits, span_bytes}
use Rattle.evidence.proofs.Lengths.{sections_start, evidence_bytes_lem, length_most}
use Rattle.evidence.proofs.Weighings.{weighings_length}
use Rattle.evidence.proofs.Written.{written}
use Rattle.choose.specs.Writing.{nodes_in, HeadFits}
use Rattle.choose.specs.Sections.{Room, Sectioned}
use Rattle.choose.proofs.Nodes.{walked_nodes}

module _ {bs : List ℕ} {h : Header} (r : Read bs h) where
  -- the evidence ends behind the last section
  pub length_for_lem : length_for bs ≡ sections_start h.edition h.slots + length (candidates (picture_of bs)) * section_bytes h.edition h.slots
  unfolding length_for
  length_for_lem = rw (read_slots bs h r, ← read_edition bs h r) (evidence_bytes_lem (read_known bs h r) h.slots (length (candidates (picture_of bs))))

  pub evidence_room : {buf : List ℕ} → length_for bs ≤ length buf → Room h (sections_start h.edition h.slots) (length (candidates (picture_of bs))) buf
  evidence_room l = record { fits = omega (arith, length_for_lem); low = omega (arith, length_for_lem, length_most bs r.accepted) }

  -- the values of the head
  module _ {best : Option Cost} {count served : ℕ} (e : best ≡ least (weighings (picture_of bs))) (f : count ≡ length (candidates (picture_of bs)))
      (g : served ≡ served_weight (picture_of bs)) where
    head_same : head_fields h.edition best count served ≡ head_of h.edition (picture_of bs)
    head_same = rw (e, f, g, weighings_length)

    pub head_fits : {buf : List ℕ} → length_for bs ≤ length buf → HeadFits h.edition best count served buf
    head_fits l =
        let c = choice_fits bs r.accepted in
        rw (e, f, g)
        (record {
          room = omega (arith, length_for_lem, head_whole);
          edition = (widths (read_known bs h r)).number_fits;
          verdict = omega arith;
          block = omega arith;
          few = omega (arith, candidates_few bs r.accepted);
          weight = served_small bs r.accepted;
          loss = c.2;
        })

module _ {bs : List ℕ} {h : Header} (r : Read bs h) {reaches : ℕ → Bool} (f : Forest)
    (w : Walked (joins (picture_of bs).links) (is_held (picture_of bs)) reaches f.parent f.depth) where
  -- the head was written last, before the rest
  pub evidence_written : {buf a b out : List ℕ} {best : Option Cost} {count served : ℕ}
      → Put buf (sum head_widths) (forest_fields h.edition (nodes_in f h.slots)) a
      → Sectioned h.edition (picture_of bs) (sections_start h.edition h.slots) a b best → Put b 0 (head_fields h.edition best count served) out
      → count ≡ length (candidates (picture_of bs)) → served ≡ served_weight (picture_of bs) → length_for bs ≤ length buf
      → ((j : ℕ) → get_or buf j 0 < 256) → ((j : ℕ) → get_or out j 0 < 256) → out ≡ evidence_of bs ++ drop (length_for bs) buf
  unfolding evidence_fields
  evidence_written {buf} {out = out} first s d e g room old new =
      let p = picture_of bs in
      let x = h.edition in
      let same = read_edition bs h r in
      let nodes = rw (read_slots bs h r) at (forest_span x p (is_held p)) in
      let rest =
      put_behind (sum head_widths) (nodes_of x p) (sections_of x p) (rw (walked_nodes f r w) at first)
      (put_same s.put (omega (arith, nodes, head_whole, forest_whole (read_known bs h r) h.slots)) refl) in
      let head = head_span x (least (weighings p)) (length (weighings p)) (served_weight p) in
      let all =
      put_ahead 0 (head_of x p) (nodes_of x p ++ sections_of x p) (put_same rest (omega arith) refl)
      (put_same d refl (head_same r s.choice e g)) in
      written bs buf out old new all.long room (rw same at all.holds) (λ i l. (rw same at all.after) i (omega (arith, span_bytes bs)))
