-- The fields of a picture's evidence: what they take, that each value fits its width, and so how long the evidence is. Assumes nothing.
use mathlib.Core.Path.{◌≡◌, refl, ap, ◌∙◌}
use mathlib.Core.Bool.{Bool}
use mathlib.Core.List.{List, [], ◌∷◌, ◌++◌, map}
use Prim.Native.Nat.{ℕ, suc, ◌+◌, ◌*◌, ◌^◌, ◌≤◌, ◌<◌}
use native.Mathlib.Omega.{arith}
use native.Mathlib.Nat.{div-add-mod'}
use Rattle.std.specs.Prelude.{Option}
use lib.ListN.{length, get_or}
use Rattle.lists.specs.Lists.{range, sum, flat, Placed}
use Rattle.lists.proofs.Filters.{length_filter_le}
use Rattle.lists.proofs.Ranges.{length_range}
use Rattle.packing.specs.Packing.{Field, fields_of}
use Rattle.packing.specs.Holding.{span, Fit}
use Rattle.packing.proofs.Fields.{span_append, fit_append, fit_flat, span_flat}
use Rattle.packing.proofs.Packed.{length_packed}
use Rattle.rows.specs.Rows.{slots_max}
use Rattle.graph.specs.declared.Node.{Node}
use Rattle.graph.specs.Rounds.{forest}
use Rattle.graph.proofs.Nodes.{length_forest, forest_at_lem, parent_le, depth_le}
use Rattle.picture.specs.declared.Edition.{Edition}
use Rattle.picture.specs.Layout.{edition_of, edition_number, blocks_max}
use Rattle.picture.specs.Picture.{Picture, header_in, header_of, picture_of}
use Rattle.picture.specs.Faults.{picture_fault}
use Rattle.picture.specs.Inner.{Read, Known}
use Rattle.picture.proofs.Editions.{known_for, widths}
use Rattle.picture.proofs.Facts.{read_slots_most}
use Rattle.picture.proofs.Accepted.{accepted_kept}
use Rattle.network.specs.Words.{slot_count, block_count, is_held, held_without, joins}
use Rattle.network.specs.declared.Cost.{Cost}
use Rattle.network.specs.Tests.{weighed, served_weight, is_candidate, candidates}
use Rattle.network.proofs.Named.{slots_counted}
use Rattle.network.proofs.Weights.{mark_le, weighed_block, weights_small}
use Rattle.network.proofs.Candidates.{candidate_below}
use Rattle.network.proofs.Blocks.{read_blocks, blocks_small}
use Rattle.evidence.specs.Layout.{head_widths, node_widths, section_head_widths, forest_bits, section_bits, section_at, evidence_bytes}
use Rattle.evidence.specs.Canonical.{no_cost, weighings, least, verdict_of, chosen_block, chosen_loss, head_fields, node_fields, forest_fields, forest_of, section_fields, evidence_fields, evidence_of}
use Rattle.evidence.specs.Calls.{length_for}
use Rattle.evidence.proofs.Least.{Right, some, none, least_right}
use Rattle.evidence.proofs.Weighings.{Weighing, of, weighings_length, weighing_candidate}
use Rattle.evidence.proofs.Places.{head_whole, forest_whole, sections_whole}

-- a node that no list has, for a place past its end
abbrev pub no_node : Node
no_node = record { parent = 0; depth = 0 }

-- ---- what the fields take

pub length_forest_of : (p : Picture) (held : ℕ → Bool) → length (forest_of p held) ≡ slot_count p
unfolding forest_of
length_forest_of p held = length_forest (joins p.links) held (slot_count p)

module _ (e : Edition) where
  pub node_span : (x : Node) → span (node_fields e x) ≡ sum (node_widths e)
  unfolding span node_fields fields_of node_widths sum
  node_span x = refl

  pub head_span : (c : Option Cost) (count served : ℕ) → span (head_fields e c count served) ≡ sum head_widths
  unfolding span head_fields fields_of head_widths sum
  head_span c count served = refl

  pub nodes_span : (xs : List Node) → span (forest_fields e xs) ≡ forest_bits e (length xs)
  unfolding forest_fields forest_bits
  nodes_span = span_flat (node_fields e) (sum (node_widths e)) node_span

  module _ (p : Picture) where
    pub forest_span : (held : ℕ → Bool) → span (forest_fields e (forest_of p held)) ≡ forest_bits e (slot_count p)
    forest_span held = nodes_span (forest_of p held) ∙ ap (forest_bits e) (length_forest_of p held)

    pub section_span : (w : Cost) → span (section_fields e p w) ≡ section_bits e (slot_count p)
    unfolding section_fields section_bits
    section_span w =
        span_append (fields_of section_head_widths (w.block ∷ w.loss ∷ w.mark ∷ [])) (forest_fields e (forest_of p (held_without p w.block)))
        ∙ ap (λ (n : ℕ). span (fields_of section_head_widths (w.block ∷ w.loss ∷ w.mark ∷ [])) + n) (forest_span (held_without p w.block)) ∙ unfold span fields_of section_head_widths sum in refl

    pub sections_span : (ws : List Cost) → span (flat (map (section_fields e p) ws)) ≡ length ws * section_bits e (slot_count p)
    sections_span = span_flat (section_fields e p) (section_bits e (slot_count p)) section_span

-- ---- the whole

module _ (e : Edition) (p : Picture) where
  -- its three parts: the head, the first forest's nodes, and the sections
  abbrev pub head_of : List Field
  head_of = head_fields e (least (weighings p)) (length (weighings p)) (served_weight p)

  abbrev pub nodes_of : List Field
  nodes_of = forest_fields e (forest_of p (is_held p))

  abbrev pub sections_of : List Field
  sections_of = flat (map (section_fields e p) (weighings p))

  pub span_evidence : span (evidence_fields e p) ≡ section_at e (slot_count p) (length (candidates p))
  unfolding evidence_fields section_at
  span_evidence =
      span_append head_of (nodes_of ++ sections_of)
      ∙ omega (
        arith,
        span_append nodes_of sections_of,
        head_span e (least (weighings p)) (length (weighings p)) (served_weight p),
        forest_span e p (is_held p),
        sections_span e p (weighings p) ∙ ap (λ (c : ℕ). c * section_bits e (slot_count p)) (weighings_length p),
      )

-- ---- each value fits its width

pub forest_fits : (e : Edition) (p : Picture) → slot_count p < 2 ^ e.location_bits → (held : ℕ → Bool) → Fit (forest_fields e (forest_of p held))
unfolding forest_fields forest_of node_fields node_widths fields_of Fit
forest_fits e p room held =
    let j = joins p.links in
    let n = slot_count p in
    fit_flat no_node (node_fields e) (forest j held n)
    (λ i s. rw (forest_at_lem j held n no_node i (omega (arith, length_forest j held n))) (omega (arith, parent_le j held n (suc i)), (omega (arith, depth_le j held n (suc i)), tt)))

module _ (bs : List ℕ) (z : picture_fault bs ≡ 0) where
  abbrev p : Picture
  p = picture_of bs

  abbrev read : Read bs (header_of bs)
  read = record { accepted = z; header = refl }

  abbrev e : Edition
  e = edition_of bs

  abbrev known : Known e
  known = known_for (edition_number bs)

  -- n is small enough for the rows, and for the width of a location
  pub slots_small : slot_count (picture_of bs) ≤ slots_max
  slots_small = omega (arith, slots_counted bs, read_slots_most bs (header_of bs) read)

  pub slots_fit : slot_count (picture_of bs) < 2 ^ (edition_of bs).location_bits
  unfolding header_of header_in
  slots_fit = omega (arith, slots_counted bs, (accepted_kept bs z).sizes.slots_most, (widths known).slots_fit)

  pub candidates_within : length (candidates (picture_of bs)) ≤ block_count (picture_of bs)
  unfolding candidates
  candidates_within = omega (arith, length_filter_le (is_candidate p) (range 0 (block_count p)), length_range 0 (block_count p))

  pub candidates_few : length (candidates (picture_of bs)) ≤ blocks_max
  candidates_few = omega (arith, candidates_within, blocks_small bs z)

  -- blocks of one size take all slots
  pub blocks_whole : block_count (picture_of bs) * (header_of bs).block_size ≡ slot_count (picture_of bs)
  blocks_whole =
      let h = header_of bs in
      omega (
        arith,
        div-add-mod' h.slots h.block_size,
        ap (λ (b : ℕ). b * h.block_size) (read_blocks bs h read),
        (accepted_kept bs z).sizes.multiple,
        slots_counted bs,
      )

  pub served_small : served_weight (picture_of bs) < 2 ^ 24
  unfolding served_weight
  served_small = weights_small bs z _

  pub loss_small : (b : ℕ) → (weighed (picture_of bs) b).loss < 2 ^ 24
  unfolding weighed
  loss_small b = weights_small bs z _

  -- of each weighing
  weighing_fits : {w : Cost} → Placed no_cost (weighings p) w → (w.block < blocks_max) × (w.loss < 2 ^ 24) × (w.mark ≤ 1)
  weighing_fits o = go (weighing_candidate p o)
    where
      go : {w : Cost} → Weighing p w → (w.block < blocks_max) × (w.loss < 2 ^ 24) × (w.mark ≤ 1)
      go (of b c) = (omega (arith, weighed_block p b, candidate_below bs z b c, blocks_small bs z), loss_small b, mark_le p b)

  -- the choice is one of the weighings, or none
  pub choice_fits : let c = least (weighings (picture_of bs)) in (verdict_of c ≤ 1) × (chosen_block c < blocks_max) × (chosen_loss c < 2 ^ 24)
  choice_fits = go (least_right (weighings p))
    where
      go : {c : Option Cost} → Right (weighings p) c → (verdict_of c ≤ 1) × (chosen_block c < blocks_max) × (chosen_loss c < 2 ^ 24)
      go (some k) = let f = weighing_fits k.best.placed in (omega arith, f.0, f.1)
      go (none m) = (omega arith, omega arith, omega arith)

  head_fits : Fit (head_of e p)
  unfolding head_fields head_widths fields_of Fit
  head_fits =
      let c = choice_fits in
      ((widths known).number_fits, (omega arith, (omega arith, (omega (arith, weighings_length p, candidates_few), (served_small, (c.2, tt))))))

  section_fits : (i : ℕ) → i < length (weighings p) → Fit (section_fields e p (get_or (weighings p) i no_cost))
  unfolding section_fields section_head_widths fields_of Fit
  section_fits i h =
      let f = weighing_fits (record { at = i; within = h; same = refl }) in
      (omega (arith, f.0), (f.1, (omega (arith, f.2), forest_fits e p slots_fit _)))

  pub evidence_fits : Fit (evidence_fields (edition_of bs) (picture_of bs))
  unfolding evidence_fields
  evidence_fits =
      fit_append (head_of e p) (nodes_of e p ++ sections_of e p) head_fits
      (fit_append (nodes_of e p) (sections_of e p) (forest_fits e p slots_fit (is_held p))
      (fit_flat no_cost (section_fields e p) (weighings p) section_fits))

-- ---- how long the evidence is

-- every part takes whole bytes
pub whole_bytes : {e : Edition} → Known e → (n c : ℕ) → section_at e n c ≡ 8 * evidence_bytes e n c
unfolding section_at evidence_bytes
whole_bytes k n c = omega (arith, head_whole, forest_whole k n, sections_whole k n c)

pub span_bytes : (bs : List ℕ) → span (evidence_fields (edition_of bs) (picture_of bs)) ≡ 8 * length_for bs
unfolding length_for
span_bytes bs = span_evidence (edition_of bs) (picture_of bs) ∙ whole_bytes (known_for (edition_number bs)) (slot_count (picture_of bs)) (length (candidates (picture_of bs)))

pub length_evidence : (bs : List ℕ) → length (evidence_of bs) ≡ evidence_bytes (edition_of bs) (slot_count (picture_of bs)) (length (candidates (picture_of bs)))
unfolding evidence_of length_for
length_evidence bs = length_packed (evidence_fields (edition_of bs) (picture_of bs)) ∙ omega (arith, span_bytes bs)
