-- Bytes that hold the fields of a picture's evidence say what the evidence does: field by field, and forest by forest. Assumes nothing.
use mathlib.Core.Path.{◌≡◌, sym, ◌∙◌}
use mathlib.Core.List.{List, [], ◌∷◌, ◌++◌}
use Prim.Native.Nat.{ℕ, ◌+◌, ◌*◌, ◌<◌}
use native.Mathlib.Omega.{arith}
use native.Mathlib.Nat.{zero-add}
use lib.Dec.{lit<}
use lib.ListN.{length, get_or}
use lib.Seq.{ext_get_or}
use Rattle.lists.specs.Lists.{sum}
use Rattle.packing.specs.Packing.{Field, fields_of}
use Rattle.packing.specs.Holding.{span, Holds}
use Rattle.packing.proofs.Fields.{holds_append, holds_flat}
use Rattle.packing.proofs.Packed.{packed_holds}
use Rattle.graph.specs.declared.Node.{Node}
use Rattle.picture.specs.declared.Edition.{Edition}
use Rattle.picture.specs.Layout.{edition_of, field_in}
use Rattle.picture.specs.Picture.{Picture, picture_of, rows}
use Rattle.picture.specs.Faults.{picture_fault}
use Rattle.picture.proofs.Starts.{length_rows, row_at}
use Rattle.picture.proofs.Fields.{fields_read}
use Rattle.network.specs.Words.{slot_count, is_held, held_without}
use Rattle.network.specs.declared.Cost.{Cost}
use Rattle.network.specs.Tests.{weighed, served_weight, candidates}
use Rattle.network.proofs.Weights.{weighed_block}
use Rattle.evidence.specs.Layout.{head_widths, node_widths, section_head_widths, section_bits, section_at, forest_at}
use Rattle.evidence.specs.Canonical.{no_cost, weighings, least, verdict_of, chosen_block, chosen_loss, head_fields, node_fields, forest_fields, forest_of, section_fields, evidence_fields, evidence_of}
use Rattle.evidence.specs.Contents.{head_in, section_in, node_at, forest_in, first_forest, section_forest}
use Rattle.evidence.proofs.Weighings.{weighings_length, weighing_at}
use Rattle.evidence.proofs.Fields.{no_node, head_of, nodes_of, sections_of, node_span, head_span, length_forest_of, forest_span, section_span, evidence_fits}

-- ---- a forest

pub forest_read : (e : Edition) (n : ℕ) (ev : List ℕ) (q : ℕ) (xs : List Node) → length xs ≡ n → Holds ev q (forest_fields e xs) → forest_in e n ev q ≡ xs
unfolding forest_fields forest_in node_at node_fields node_widths
forest_read e n ev q xs len h =
    let w = sum (node_widths e) in
    ext_get_or no_node (rows (node_at e ev) q w n) xs (length_rows (node_at e ev) q w n ∙ sym len) (λ i s.
    let m : i < n = omega (arith, length_rows (node_at e ev) q w n) in
    let x = get_or xs i no_node in
    let r : Holds ev (q + i * w) (node_fields e x) = holds_flat no_node (node_fields e) w (node_span e) ev q xs h i (omega arith) in
    let a = fields_read ev (node_widths e) (x.parent ∷ x.depth ∷ []) (q + i * w) r 0 (lit< tt) (lit< tt) in
    let b = fields_read ev (node_widths e) (x.parent ∷ x.depth ∷ []) (q + i * w) r 1 (lit< tt) (lit< tt) in
    row_at (node_at e ev) no_node q w n i m ∙ (λ j. record { parent = a j; depth = b j }))

-- ---- the parts of the evidence

-- the head, the first forest, and the section of each candidate, each at its place
pub record Parts (e : Edition) (p : Picture) (ev : List ℕ) : Type 0 where
  pub head : Holds ev 0 (head_of e p)
  pub forest : Holds ev (sum head_widths) (nodes_of e p)
  pub sections : (i : ℕ) → i < length (candidates p) → Holds ev (section_at e (slot_count p) i) (section_fields e p (weighed p (get_or (candidates p) i 0)))

module _ (e : Edition) (p : Picture) (ev : List ℕ) where
  abbrev head : List Field
  head = head_of e p

  abbrev nodes : List Field
  nodes = nodes_of e p

  abbrev sections : List Field
  sections = sections_of e p

  -- where the first forest and the sections start
  forest_place : 0 + span head ≡ sum head_widths
  forest_place = zero-add (span head) ∙ head_span e (least (weighings p)) (length (weighings p)) (served_weight p)

  sections_place : (i : ℕ) → sum head_widths + span nodes + i * section_bits e (slot_count p) ≡ section_at e (slot_count p) i
  unfolding section_at
  sections_place i = rw (forest_span e p (is_held p))

  pub held_parts : Holds ev 0 (evidence_fields e p) → Parts e p ev
  unfolding evidence_fields
  held_parts h =
      let a = holds_append ev 0 head (nodes ++ sections) h in
      let b = holds_append ev (sum head_widths) nodes sections (rw forest_place at a.1) in
      record {
        head = a.0;
        forest = b.0;
        sections = λ i s.
            rw (← weighing_at p i s, ← sections_place i)
            (holds_flat no_cost (section_fields e p) (section_bits e (slot_count p)) (section_span e p) ev (sum head_widths + span nodes) (weighings p) b.1 i (omega (arith, weighings_length p)));
      }

-- ---- what is read back

pub record Reads (e : Edition) (p : Picture) (ev : List ℕ) : Type 0 where
  pub edition : (head_in ev).edition ≡ e.number
  pub verdict : (head_in ev).verdict ≡ verdict_of (least (weighings p))
  pub block : (head_in ev).block ≡ chosen_block (least (weighings p))
  pub count : (head_in ev).count ≡ length (candidates p)
  pub served : (head_in ev).served ≡ served_weight p
  pub loss : (head_in ev).loss ≡ chosen_loss (least (weighings p))
  pub forest : first_forest e (slot_count p) ev ≡ forest_of p (is_held p)
  pub blocks : (i : ℕ) → i < length (candidates p) → (section_in e (slot_count p) ev i).block ≡ get_or (candidates p) i 0
  pub losses : (i : ℕ) → i < length (candidates p) → (section_in e (slot_count p) ev i).loss ≡ (weighed p (get_or (candidates p) i 0)).loss
  pub marks : (i : ℕ) → i < length (candidates p) → (section_in e (slot_count p) ev i).mark ≡ (weighed p (get_or (candidates p) i 0)).mark
  pub forests : (i : ℕ) → i < length (candidates p) → section_forest e (slot_count p) ev i ≡ forest_of p (held_without p (get_or (candidates p) i 0))

module _ (e : Edition) (p : Picture) (ev : List ℕ) (parts : Parts e p ev) where
  head_read : (k : ℕ) → k < 6
      → let c = least (weighings p) in
      field_in ev head_widths 0 k
      ≡ get_or (e.number ∷ verdict_of c ∷ chosen_block c ∷ length (weighings p) ∷ served_weight p ∷ chosen_loss c ∷ []) k 0
  unfolding head_fields head_widths
  head_read k s = fields_read ev head_widths _ 0 parts.head k s s

  module _ (i : ℕ) (s : i < length (candidates p)) where
    abbrev w : Cost
    w = weighed p (get_or (candidates p) i 0)

    start : Holds ev (section_at e (slot_count p) i) (fields_of section_head_widths (w.block ∷ w.loss ∷ w.mark ∷ []))
        × Holds ev (section_at e (slot_count p) i + sum section_head_widths) (forest_fields e (forest_of p (held_without p w.block)))
    unfolding section_fields section_head_widths fields_of span sum
    start = holds_append ev (section_at e (slot_count p) i) (fields_of section_head_widths (w.block ∷ w.loss ∷ w.mark ∷ [])) (forest_fields e (forest_of p (held_without p w.block))) (parts.sections i s)

    section_read : (k : ℕ) → k < 3 → field_in ev section_head_widths (section_at e (slot_count p) i) k ≡ get_or (w.block ∷ w.loss ∷ w.mark ∷ []) k 0
    unfolding section_head_widths
    section_read k m = fields_read ev section_head_widths _ (section_at e (slot_count p) i) start.0 k m m

    section_forest_lem : section_forest e (slot_count p) ev i ≡ forest_of p (held_without p (get_or (candidates p) i 0))
    unfolding section_forest forest_at
    section_forest_lem =
        forest_read e (slot_count p) ev (section_at e (slot_count p) i + sum section_head_widths) (forest_of p (held_without p w.block)) (length_forest_of p (held_without p w.block)) start.1
        ∙ rw (weighed_block p (get_or (candidates p) i 0))

  pub parts_reads : Reads e p ev
  unfolding head_in section_in first_forest forest_at
  parts_reads =
      record {
        edition = head_read 0 (lit< tt);
        verdict = head_read 1 (lit< tt);
        block = head_read 2 (lit< tt);
        count = head_read 3 (lit< tt) ∙ weighings_length p;
        served = head_read 4 (lit< tt);
        loss = head_read 5 (lit< tt);
        forest = forest_read e (slot_count p) ev (sum head_widths) (forest_of p (is_held p)) (length_forest_of p (is_held p)) parts.forest;
        blocks = λ i s. section_read i s 0 (lit< tt) ∙ weighed_block p (get_or (candidates p) i 0);
        losses = λ i s. section_read i s 1 (lit< tt);
        marks = λ i s. section_read i s 2 (lit< tt);
        forests = section_forest_lem;
      }

pub held_reads : (e : Edition) (p : Picture) (ev : List ℕ) → Holds ev 0 (evidence_fields e p) → Reads e p ev
held_reads e p ev h = parts_reads e p ev (held_parts e p ev h)

-- the evidence of an accepted picture
pub evidence_holds : (bs : List ℕ) → picture_fault bs ≡ 0 → Holds (evidence_of bs) 0 (evidence_fields (edition_of bs) (picture_of bs))
unfolding evidence_of
evidence_holds bs z = packed_holds (evidence_fields (edition_of bs) (picture_of bs)) (evidence_fits bs z)

pub evidence_reads : (bs : List ℕ) → picture_fault bs ≡ 0 → Reads (edition_of bs) (picture_of bs) (evidence_of bs)
evidence_reads bs z = held_reads (edition_of bs) (picture_of bs) (evidence_of bs) (evidence_holds bs z)
