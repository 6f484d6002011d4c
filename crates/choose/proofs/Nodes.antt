-- The nodes of a forest written from arrays, slot by slot, and the arrays of a walk. Assumes nothing.
use mathlib.Core.Path.{◌≡◌, refl, sym, ap, ◌∙◌}
use mathlib.Core.Bool.{Bool}
use mathlib.Core.List.{List, [], ◌∷◌, ◌++◌}
use Prim.Native.Nat.{ℕ, zero, suc, ◌+◌, ◌*◌, ◌/◌, ◌%◌, ◌^◌, ◌≤◌, ◌<◌}
use native.Mathlib.Omega.{arith}
use native.Mathlib.Nat.{mul-le-mul_right, suc-mul}
use native.Mathlib.Numerals.{add-one, one-add}
use lib.ListN.{length, get_or, length-map}
use lib.Bits.{bit_or, or_shifted}
use lib.Pow.{shl_exact}
use Rattle.bits.specs.Bits.{put_field}
use Rattle.lists.specs.Lists.{range, item, flat, sum}
use Rattle.lists.proofs.Ranges.{length_range, get_d_map_range}
use Rattle.lists.proofs.Growing.{range_more, map-append, flat_map_more}
use Rattle.packing.specs.Packing.{fields_of}
use Rattle.packing.specs.Holding.{Put}
use Rattle.packing.proofs.Putting.{put_none, put_behind, put_both, put_same}
use Rattle.graph.specs.Chains.{Entry}
use Rattle.graph.specs.declared.Forest.{Forest}
use Rattle.graph.specs.declared.Node.{Node}
use Rattle.graph.specs.Kept.{node_of}
use Rattle.graph.specs.Steps.{Walked}
use Rattle.graph.proofs.Keeping.{entries_same}
use Rattle.graph.specs.Rounds.{levels, node_in}
use Rattle.graph.proofs.Nodes.{forest_at_lem, parent_le, depth_le}
use Rattle.picture.specs.declared.Header.{Header}
use Rattle.picture.specs.declared.Edition.{Edition}
use Rattle.picture.specs.Picture.{Picture, picture_of}
use Rattle.picture.specs.Inner.{Read, Known}
use Rattle.network.specs.Words.{slot_count, joins}
use Rattle.network.proofs.Named.{accepted_named}
use Rattle.network.proofs.Blocks.{read_slots}
use Rattle.evidence.specs.Layout.{node_widths, node_bytes}
use Rattle.evidence.specs.Canonical.{node_fields, forest_fields, forest_of}
use Rattle.evidence.proofs.Places.{node_whole, node_bytes_lem, forest_whole}
use Rattle.evidence.proofs.Fields.{no_node, nodes_span}
use Rattle.choose.specs.Writing.{nodes_in}

-- a node's bytes, by the width of a location
node_size : (e : Edition) → (e.location_bits + e.location_bits) / 8 ≡ node_bytes e
unfolding node_bytes node_widths sum
node_size e = omega arith

-- node v has room where n nodes have, in two bytes or three
pub node_room : {e : Edition} {w n room : ℕ} (at v : ℕ) → Known e → e.location_bits ≡ w → at + n * node_bytes e ≤ room → v < n
    → let size = (w + w) / 8 in (at + v * size + size ≤ room) × (2 ≤ size) × (size ≤ 3)
node_room {e} at v known l fits below =
    let bytes = node_bytes_lem known in
    rw (← l, node_size e) (omega (arith, fits, mul-le-mul_right (node_bytes e) below, suc-mul v (node_bytes e)), bytes.0, bytes.1)

-- parent and depth as one number are the node's fields
node_put : {e : Edition} → Known e → (buf : List ℕ) (q parent depth : ℕ) → parent < 2 ^ e.location_bits → depth < 2 ^ e.location_bits
    → q + node_bytes e * 8 ≤ length buf * 8
    → Put buf q (fields_of (node_widths e) (parent ∷ depth ∷ [])) (put_field buf q (node_bytes e * 8) (bit_or (parent * 2 ^ e.location_bits % 2 ^ 64) depth))
unfolding node_widths sum
node_put {e} known buf q parent depth first second room =
    let w = e.location_bits in
    let whole : w + w ≡ node_bytes e * 8 = omega (arith, node_whole known) in
    let bytes = node_bytes_lem known in
    let wide : w + w ≤ 64 = omega arith in
    rw (← whole, shl_exact w w 64 first wide, or_shifted parent w depth second) (put_both buf q w w parent depth first second (omega arith))

module _ (f : Forest) where
  length_nodes : (n : ℕ) → length (nodes_in f n) ≡ n
  unfolding nodes_in
  length_nodes n = length-map (range 1 n) _ ∙ length_range 1 n

  -- the node of slot v
  abbrev node : ℕ → Node
  node v = record { parent = get_or f.parent v 0; depth = get_or f.depth v 0 }

  -- ---- slot by slot

  module _ (e : Edition) where
    pub nodes_begun : (buf : List ℕ) (q : ℕ) → Put buf q (forest_fields e (nodes_in f 0)) buf
    unfolding forest_fields nodes_in range flat
    nodes_begun = put_none

    nodes_more : (v : ℕ) → forest_fields e (nodes_in f (v + 1)) ≡ forest_fields e (nodes_in f v) ++ node_fields e (node (v + 1))
    unfolding forest_fields nodes_in
    nodes_more v = rw (add-one, range_more 1 v, map-append, flat_map_more, one-add)

    -- one slot more
    pub nodes_next : {w : ℕ} {buf buf' : List ℕ} (at v : ℕ) → Known e → e.location_bits ≡ w → Put buf (at * 8) (forest_fields e (nodes_in f v)) buf'
        → get_or f.parent (v + 1) 0 < 2 ^ e.location_bits → get_or f.depth (v + 1) 0 < 2 ^ e.location_bits
        → let size = (w + w) / 8 in at + v * size + size ≤ length buf'
        → Put buf (at * 8) (forest_fields e (nodes_in f (v + 1)))
        (put_field buf' ((at + v * size) * 8) (size * 8) (bit_or (get_or f.parent (v + 1) 0 * 2 ^ w % 2 ^ 64) (get_or f.depth (v + 1) 0)))
    unfolding node_fields
    nodes_next at v known l p first second room =
        let bits = rw (length_nodes v) at (nodes_span e (nodes_in f v)) in
        let fits = rw (← l, node_size e) at room in
        rw (← l, node_size e, nodes_more v)
        (put_behind (at * 8) (forest_fields e (nodes_in f v)) (node_fields e (node (v + 1))) p
        (put_same (node_put known _ _ _ _ first second (omega arith)) (omega (arith, bits, forest_whole known v)) refl))

  -- ---- the arrays of a walk over a picture

  -- they are the forest
  pub walked_nodes : {bs : List ℕ} {h : Header} {held reaches : ℕ → Bool} → Read bs h → Walked (joins (picture_of bs).links) held reaches f.parent f.depth
      → nodes_in f h.slots ≡ forest_of (picture_of bs) held
  unfolding forest_of nodes_in node_of item
  walked_nodes {bs} {h} {held} r w =
      let named = (accepted_named bs r.accepted).links in
      rw (← read_slots bs h r) (entries_same linked held n named (nodes_in f n) (length_nodes n) entry)
    where
      n : ℕ
      n = slot_count (picture_of bs)

      linked : ℕ → ℕ → Bool
      linked = joins (picture_of bs).links

      entry : (v : ℕ) → 1 ≤ v → v ≤ n → Entry linked held v (node_of (nodes_in f n) v).parent (node_of (nodes_in f n) v).depth
      entry zero l m = absurd (omega arith)
      entry (suc i) l m = rw (get_d_map_range node _ 1 n i m, one-add) (w.entry (suc i) l)

  -- so that no entry is above n
  pub forest_small : (p : Picture) (held : ℕ → Bool) {n : ℕ} → slot_count p ≡ n → nodes_in f n ≡ forest_of p held → (v : ℕ) → v < n → (get_or f.parent (v + 1) 0 ≤ n) × (get_or f.depth (v + 1) 0 ≤ n)
  unfolding forest_of nodes_in
  forest_small p held {n} z e v l =
      let j = joins p.links in
      let same : node (1 + v) ≡ node_in j held (slot_count p) (levels j held (slot_count p)) (suc v) =
      sym (get_d_map_range node no_node 1 n v l) ∙ ap (λ (xs : List Node). get_or xs v no_node) e ∙ forest_at_lem j held (slot_count p) no_node v (omega arith) in
      let at : node (v + 1) ≡ node (1 + v) = ap node (omega arith) in
      let parent = ap (λ (x : Node). x.parent) (at ∙ same) in
      let depth = ap (λ (x : Node). x.depth) (at ∙ same) in
      (omega (arith, parent, parent_le j held (slot_count p) (suc v)), omega (arith, depth, depth_le j held (slot_count p) (suc v)))
