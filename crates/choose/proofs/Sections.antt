-- The section of a candidate: what the rows of a picture give is what the specification says. Assumes nothing.
use mathlib.Core.Path.{◌≡◌, sym}
use mathlib.Core.Bool.{Bool}
use mathlib.Core.List.{List}
use Prim.Native.Nat.{ℕ, ◌+◌, ◌*◌, ◌≤◌, ◌<◌}
use native.Mathlib.Omega.{arith}
use lib.ListN.{length}
use Rattle.packing.specs.Holding.{Put}
use Rattle.rows.specs.Rows.{marked, linked_in}
use Rattle.rows.specs.Ranges.{without}
use Rattle.graph.specs.Held.{held_in}
use Rattle.graph.specs.declared.Forest.{Forest}
use Rattle.graph.specs.Steps.{Walked}
use Rattle.picture.specs.declared.Header.{Header}
use Rattle.picture.specs.Picture.{Picture, picture_of}
use Rattle.picture.specs.Inner.{Read}
use Rattle.picture.proofs.Facts.{read_limited, read_known, read_edition, read_slots_most}
use Rattle.network.specs.declared.Cost.{Cost}
use Rattle.network.specs.Words.{block_count, held_without, joins}
use Rattle.network.specs.Tests.{weighed}
use Rattle.network.specs.Rows.{block_range}
use Rattle.network.proofs.Named.{accepted_named}
use Rattle.network.proofs.Weights.{mark_le, weighed_block}
use Rattle.weigh.specs.declared.Lost.{Lost}
use Rattle.network.proofs.Blocks.{read_block_size, read_slots, read_endpoints, blocks_small}
use Rattle.weigh.proofs.Serving.{left_walked, walk_meets, loss_met, cuts_met, mark_met}
use Rattle.evidence.specs.Layout.{node_bytes, evidence_max}
use Rattle.evidence.specs.Canonical.{forest_of, section_fields}
use Rattle.evidence.proofs.Places.{section_bytes_lem}
use Rattle.evidence.proofs.Fields.{slots_fit, loss_small}
use Rattle.choose.specs.declared.Weighing.{Weighing}
use Rattle.choose.specs.Writing.{nodes_in, array_section, ForestFits, SectionFits}
use Rattle.choose.specs.Sections.{WeighRows, LostNow, Room, SectionDone}
use Rattle.choose.proofs.Nodes.{walked_nodes, forest_small}

module _ {bs : List ℕ} {h : Header} (r : Read bs h) where
  -- the forest of a walk has room, and its entries fit
  pub forest_ready : (held : ℕ → Bool) {at : ℕ} {f : Forest} {buf : List ℕ} → at + h.slots * node_bytes h.edition ≤ length buf → at ≤ evidence_max
      → nodes_in f h.slots ≡ forest_of (picture_of bs) held → ForestFits h at f buf
  forest_ready held o low e =
      let fit = rw (← read_edition bs h r, read_slots bs h r) at (slots_fit bs r.accepted) in
      let small = forest_small _ (picture_of bs) held (read_slots bs h r) e in
      record {
        limited = read_limited bs h r;
        room = o;
        low = low;
        few = read_slots_most bs h r;
        parent = λ v l. omega (arith, (small v l).0, fit);
        depth = λ v l. omega (arith, (small v l).1, fit);
      }

  -- the section of a block has room, and its values fit
  pub section_fits : {b at : ℕ} {w : Cost} {f : Forest} {buf : List ℕ} → w ≡ weighed (picture_of bs) b → b < block_count (picture_of bs) → Room h at 1 buf
      → nodes_in f h.slots ≡ forest_of (picture_of bs) (held_without (picture_of bs) b)
      → SectionFits h at w f buf
  section_fits {b} e k o d =
      let p = picture_of bs in
      rw e
      (record {
        block = omega (arith, weighed_block p b, blocks_small bs r.accepted);
        loss = loss_small bs r.accepted b;
        mark = omega (arith, mark_le p b);
        forest =
            forest_ready (held_without p b) (omega (arith, section_bytes_lem (read_known bs h r) h.slots, o.fits))
            (omega (arith, section_bytes_lem (read_known bs h r) h.slots, o.low)) d;
      })

module _ {bs : List ℕ} {h : Header} {t : Weighing} (r : WeighRows bs h t) where
  abbrev p : Picture
  p = picture_of bs

  -- with the walk without the block, and the sums of what is lost
  module _ (b : ℕ) {gone : Lost} (f : Forest)
      (w : Walked (linked_in t.tables.now.links) (without (block_range h.block_size b) (held_in t.slots.now.held)) (marked f.reached) f.parent f.depth)
      (s : LostNow h t f.reached gone) where
    abbrev cost : Cost
    cost = record { block = b; loss = gone.weight; cuts = gone.count; mark = gone.mark }

    rest : Walked (joins p.links) (held_without p b) (marked f.reached) f.parent f.depth
    rest = left_walked r.slots.held r.tables.links b (read_block_size bs h r.read) w

    pub lost_cost : cost ≡ weighed (picture_of bs) b
    lost_cost =
        let named = accepted_named bs r.read.accepted in
        let count = read_endpoints bs h r.read in
        let now = walk_meets named r.tables.services r.now in
        let left = walk_meets named r.tables.services rest in
        let lost = loss_met r.tables.ends count now b left s in
        let many = cuts_met r.tables.ends count now b left s in
        let told = mark_met r.tables.ends count now b left s in
        λ i. record { block = sym (weighed_block p b) i; loss = lost i; cuts = many i; mark = told i }

    -- the arrays are the forest without the block
    pub left_nodes : nodes_in f h.slots ≡ forest_of p (held_without p b)
    left_nodes = walked_nodes f r.read rest

    section_same : array_section h.edition cost f h.slots ≡ section_fields h.edition p (weighed p b)
    unfolding array_section section_fields
    section_same = rw (← lost_cost, left_nodes)

    pub section_done : {at : ℕ} {buf buf' : List ℕ} → Put buf (at * 8) (array_section h.edition cost f h.slots) buf'
        → SectionDone h.edition (picture_of bs) b at buf buf' cost
    section_done put = record { put = rw section_same at put; cost = lost_cost }
