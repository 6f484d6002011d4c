-- `add_section` weighs a candidate and writes its section. Assumes nothing.
use mathlib.Core.Path.{refl}
use Rattle.rows.specs.Rows.{marked, linked_in}
use Rattle.rows.specs.Ranges.{without}
use Rattle.graph.specs.Held.{held_in}
use Rattle.graph.specs.Steps.{Walked}
use Rattle.network.specs.Rows.{block_range}
use Rattle.network.proofs.Blocks.{read_block}
use Rattle.weigh.proofs.Serving.{slots_only_lem, walk_narrow}
use Rattle.choose.proofs.Sections.{section_fits, lost_cost, left_nodes, section_done}
use Rattle.choose.proofs.add_section.Goals as goal
use Rattle.choose.proofs.add_section.Goals.{After-lost-lost, After-walk_without-forest}

pub block_range-block-requires : goal.block_range-block-requires
block_range-block-requires c = let p = c.requires in read_block _ _ p.rows.read _ p.block

pub walk_without-forest-requires : goal.walk_without-forest-requires
walk_without-forest-requires c = let p = c.requires in slots_only_lem p.rows.read p.rows.slots.held

-- the walk without the block
rest : (c : After-walk_without-forest) → let t = c.args.weighing.now in let r = c.walk_without-forest.result in
    Walked (linked_in t.tables.now.links) (without (block_range c.args.h.block_size c.args.b) (held_in t.slots.now.held)) (marked r.reached) r.parent r.depth
rest c = rw c.block_range-block.ensures at c.walk_without-forest.ensures

pub lost-lost-requires-clause-narrow : goal.lost-lost-requires-clause-narrow
lost-lost-requires-clause-narrow c = let r = c.requires.rows in walk_narrow r.read r.slots.held _ refl c.walk_without-forest.ensures

pub put_section-requires : goal.put_section-requires
put_section-requires c =
    let p = c.requires in
    let cost = lost_cost p.rows _ c.walk_without-forest.result (rest (goal.at.put_section-requires c).After-walk_without-forest) c.lost-lost.ensures in
    rw (c.from.ensures, c.from-2.ensures)
    (section_fits p.rows.read cost p.block p.room
    (left_nodes p.rows _ c.walk_without-forest.result (rest (goal.at.put_section-requires c).After-walk_without-forest) c.lost-lost.ensures))

pub returns : goal.returns
returns c =
    λ bs r. rw (c.from.ensures, c.from-2.ensures)
    (section_done r _ c.walk_without-forest.result (rest (goal.at.returns c).After-walk_without-forest) c.lost-lost.ensures (rw (c.from.ensures, c.from-2.ensures) at c.put_section.ensures))
