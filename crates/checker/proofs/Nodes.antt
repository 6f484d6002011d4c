-- The nodes of a forest in the evidence, and what the test of one node comes to. Assumes nothing.
use mathlib.Core.Path.{◌≡◌, refl, sym, ap₂, ◌∙◌}
use mathlib.Core.Bool.{Bool, true, false, not, and-false, and-true}
use mathlib.Core.Logic.{◌≢◌}
use mathlib.Core.List.{List, []}
use Prim.Native.Nat.{ℕ, suc, ◌+◌, ◌-◌, ◌*◌, ◌^◌, ◌≤◌, ◌<◌}
use native.Mathlib.Omega.{arith}
use native.Mathlib.Nat.{mul-le-mul_right, suc-mul}
use borrow.Author.Tests.{eq-eqb, ne_eqb}
use lib.Dec.{eqb}
use lib.ListN.{length, get_or}
use Rattle.lists.specs.Lists.{item, sum}
use Rattle.lists.proofs.Tests.{eqb_comm}
use Rattle.bits.specs.Bits.{field_at}
use Rattle.bits.proofs.Reading.{field_at_below}
use Rattle.graph.specs.declared.Node.{Node}
use Rattle.graph.specs.Kept.{node_of}
use Rattle.graph.specs.Held.{held_in}
use Rattle.graph.proofs.Held.{slot_held}
use Rattle.rows.specs.Rows.{marked, linked_in}
use Rattle.graph.proofs.Keeping.{node_above}
use Rattle.picture.specs.declared.Edition.{Edition}
use Rattle.picture.specs.declared.Header.{Header}
use Rattle.picture.specs.Layout.{field_in}
use Rattle.picture.specs.Inner.{Known}
use Rattle.picture.proofs.Editions.{widths}
use Rattle.picture.proofs.Starts.{length_rows, item_row}
use Rattle.evidence.specs.Layout.{node_widths, node_bytes, forest_bits}
use Rattle.evidence.specs.Contents.{node_at, forest_in}
use Rattle.evidence.specs.Checks.{is_in, node_right}
use Rattle.evidence.proofs.Places.{node_whole, forest_whole}
use Rattle.checker.specs.Forests.{Room, node_from}

-- ---- the nodes

module _ (e : Edition) (n : ℕ) (ev : List ℕ) (q : ℕ) where
  pub forest_length : length (forest_in e n ev q) ≡ n
  unfolding forest_in
  forest_length = length_rows (node_at e ev) q (sum (node_widths e)) n

  pub node_read : (v : ℕ) → 1 ≤ v → v ≤ n → node_of (forest_in e n ev q) v ≡ node_from e ev q v
  unfolding forest_in node_of node_from
  node_read v l m = item_row (node_at e ev) _ q (sum (node_widths e)) n v l m

-- a node is a field of whole bytes
pub node_field : {e : Edition} → Known e → (ev : List ℕ) (at v : ℕ) → let w = e.location_bits in
    field_at ev ((at + (v - 1) * node_bytes e) * 8) (node_bytes e * 8) ≡ field_at ev (at * 8 + (v - 1) * sum (node_widths e)) (w + w)
unfolding forest_bits node_widths sum
node_field {e} known ev at v =
    let place : (at + (v - 1) * node_bytes e) * 8 ≡ at * 8 + (v - 1) * sum (node_widths e) = omega (arith, forest_whole known (v - 1)) in
    ap₂ (field_at ev) place (omega (arith, node_whole known))

-- where evidence has room for a forest, it has room for each of its nodes
pub node_room : {h : Header} {ev : List ℕ} {at v : ℕ} → Room h ev at → 1 ≤ v → v ≤ h.slots
    → at + (v - 1) * node_bytes h.edition + node_bytes h.edition ≤ length ev
node_room {h} {v = v} r l m =
    let one : suc (v - 1) ≤ h.slots = omega arith in
    omega (arith, r.within, mul-le-mul_right (node_bytes h.edition) one, suc-mul (v - 1) (node_bytes h.edition))

-- a depth is a field of as many bits as a location has
pub depth_small : {e : Edition} → Known e → (ev : List ℕ) (q v : ℕ) → (node_from e ev q v).depth < 2 ^ 12
unfolding node_from node_at node_widths field_in
depth_small {e} known ev q v = field_at_below ev _ e.location_bits 12 refl (widths known).bits_most

-- ---- what is in a forest

module _ (es : List Node) where
  -- a slot is where its depth is not 0
  pub slot_in : (v : ℕ) → 1 ≤ v → is_in es v ≡ not (eqb (node_of es v).depth 0)
  unfolding is_in
  slot_in v l = rw (ne_eqb v 0 (omega arith))

  -- and none above the slots is
  pub above_in : (v : ℕ) → length es < v → is_in es v ≡ false
  unfolding is_in
  above_in v l = rw (ne_eqb v 0 (omega arith), node_above es v l)

-- ---- the test of slot v, whose node is x: by the nodes as they are read, and by the rows of what is held and of the links

module _ (e : Edition) (n : ℕ) (ev : List ℕ) (q : ℕ) (table : List (List ℕ)) (row : List ℕ) (v : ℕ) (x : Node) (some : 1 ≤ v) (most : v ≤ n) (own : x ≡ node_from e ev q v) where
  abbrev es : List Node
  es = forest_in e n ev q

  abbrev right : Bool
  right = node_right (linked_in table) (held_in row) es v

  read : node_of es v ≡ x
  read = node_read e n ev q v some most ∙ sym own

  held : held_in row v ≡ marked row v
  held = sym (slot_held row v some)

  pub node_outside : x.depth ≡ 0 → eqb x.parent 0 ≡ right
  unfolding node_right
  node_outside z = rw (read, eq-eqb x.depth 0 z)

  module _ (deep : x.depth ≢ 0) where
    pub node_not_held : marked row v ≡ false → false ≡ right
    unfolding node_right
    node_not_held h = rw (read, ne_eqb x.depth 0 deep, held, h)

    parent_out : is_in es x.parent ≡ false → false ≡ right
    unfolding node_right
    parent_out i = rw (read, ne_eqb x.depth 0 deep, i, and-false (held_in row v))

    -- the parent is above the slots, or is one with depth 0
    pub node_parent_above : n < x.parent → false ≡ right
    node_parent_above l = parent_out (above_in es x.parent (rw forest_length l))

    pub node_parent_freed : (k : Node) → x.parent ≢ 0 → x.parent ≤ n → k ≡ node_from e ev q x.parent → k.depth ≡ 0 → false ≡ right
    node_parent_freed k above low parent freed =
        let above_some : 1 ≤ x.parent = omega arith in
        let told : node_of es x.parent ≡ k = node_read e n ev q x.parent above_some low ∙ sym parent in
        parent_out (slot_in es x.parent above_some ∙ rw (told, eq-eqb _ _ freed))

    pub node_not_linked : marked (get_or table x.parent []) v ≡ false → false ≡ right
    unfolding node_right linked_in
    node_not_linked l = rw (read, ne_eqb x.depth 0 deep, l) (simp and-false)

    -- held, linked, and its parent in the forest: the depths are compared
    module _ (h : marked row v ≡ true) (l : marked (get_or table x.parent []) v ≡ true) where
      depths : is_in es x.parent ≡ true → eqb ((node_of es x.parent).depth + 1) x.depth ≡ right
      unfolding node_right linked_in
      depths i = rw (read, ne_eqb x.depth 0 deep, held, h, i, l) (simp and-true)

      pub node_root : x.parent ≡ 0 → eqb x.depth 1 ≡ right
      unfolding is_in node_of item
      node_root z = eqb_comm x.depth 1 ∙ rw z at (depths (rw z))

      pub node_depths : (k : Node) → x.parent ≢ 0 → x.parent ≤ n → k ≡ node_from e ev q x.parent → k.depth ≢ 0 → eqb (k.depth + 1) x.depth ≡ right
      node_depths k above low parent some =
          let above_some : 1 ≤ x.parent = omega arith in
          let told : node_of es x.parent ≡ k = node_read e n ev q x.parent above_some low ∙ sym parent in
          rw (← told) (depths (slot_in es x.parent above_some ∙ rw (told, ne_eqb _ _ some)))

-- what each return of the test comes to, and that the sum of a depth and one fits
pub ruleset node_tests = (node_outside, node_not_held, node_parent_above, node_parent_freed, node_not_linked, node_root, node_depths, depth_small)
