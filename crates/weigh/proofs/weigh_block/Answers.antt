-- `weigh_block` weighs a block of an accepted picture. Assumes nothing.
use Prim.Native.Nat.{ℕ}
use Rattle.rows.specs.Rows.{marked, Narrow, row_words}
use Rattle.graph.specs.Steps.{Walked}
use Rattle.picture.specs.Picture.{Picture, picture_of}
use Rattle.network.specs.Words.{is_held, held_without, joins}
use Rattle.network.proofs.Named.{accepted_named}
use Rattle.network.proofs.Blocks.{read_block_size, read_endpoints, read_block}
use Rattle.rows.proofs.Marks.{clear, clear_narrow}
use Rattle.weigh.specs.Weighing.{weights_of}
use Rattle.weigh.proofs.Serving.{now_walked, left_walked, slots_only_lem, walk_narrow, sums_ready, walk_meets, served_met, loss_met, mark_met}
use Rattle.weigh.proofs.weigh_block.Goals as goal
use Rattle.weigh.proofs.weigh_block.Goals.{After-walk-before, After-walk_without-after}

-- the picture and the block
abbrev shown : After-walk-before → Picture
shown c = picture_of c.args.p.now

abbrev evicted : After-walk-before → ℕ
evicted c = c.args.b

pub walk-before-requires : goal.walk-before-requires
walk-before-requires c = slots_only_lem c.header-h.ensures c.slot_rows-slots.ensures.held

pub block_range-requires : goal.block_range-requires
block_range-requires c = read_block _ _ c.header-h.ensures _ c.requires

pub walk_without-after-requires : goal.walk_without-after-requires
walk_without-after-requires c = slots_only_lem c.header-h.ensures c.slot_rows-slots.ensures.held

-- both walks are walks over the picture
now : (c : After-walk-before) → let r = c.walk-before.result in
    Walked (joins (shown c).links) (is_held (shown c)) (marked r.reached) r.parent r.depth
now c = now_walked c.slot_rows-slots.ensures.held c.fill.ensures.links c.walk-before.ensures

left : (c : After-walk_without-after) → let r = c.walk_without-after.result in
    Walked (joins (shown (goal.at.After-walk_without-after c).After-walk-before).links)
    (held_without (shown (goal.at.After-walk_without-after c).After-walk-before) (evicted (goal.at.After-walk_without-after c).After-walk-before))
    (marked r.reached) r.parent r.depth
left c =
    left_walked c.slot_rows-slots.ensures.held c.fill.ensures.links
    (evicted (goal.at.After-walk_without-after c).After-walk-before) (read_block_size _ _ c.header-h.ensures)
    (rw c.block_range.ensures at c.walk_without-after.ensures)

-- what the walks reach is in the words that the header's slots take
narrow : (c : After-walk-before) → Narrow c.words_for-words.result c.walk-before.result.reached
narrow c = walk_narrow c.header-h.ensures c.slot_rows-slots.ensures.held _ c.words_for-words.ensures c.walk-before.ensures

narrow_left : (c : After-walk_without-after) → Narrow c.words_for-words.result c.walk_without-after.result.reached
narrow_left c =
    walk_narrow c.header-h.ensures c.slot_rows-slots.ensures.held _ c.words_for-words.ensures c.walk_without-after.ensures

pub lost_between-all-requires : goal.lost_between-all-requires
lost_between-all-requires c =
    sums_ready _ _ c.header-h.ensures c.fill.ensures (narrow (goal.at.lost_between-all-requires c).After-walk-before)
    (clear_narrow row_words (narrow (goal.at.lost_between-all-requires c).After-walk-before).most)

pub lost_between-lost-requires : goal.lost_between-lost-requires
lost_between-lost-requires c =
    sums_ready _ _ c.header-h.ensures c.fill.ensures (narrow (goal.at.lost_between-lost-requires c).After-walk-before)
    (narrow_left (goal.at.lost_between-lost-requires c).After-walk_without-after)

pub returns : goal.returns
unfolding weights_of
returns c =
    let services = c.fill.ensures.services in
    let ends = c.fill.ensures.ends in
    let read = c.header-h.ensures in
    let named = accepted_named _ read.accepted in
    let count = read_endpoints _ _ read in
    let all = c.lost_between-all.ensures in
    let lost = c.lost_between-lost.ensures in
    let now = walk_meets named services (now (goal.at.returns c).After-walk-before) in
    let left = walk_meets named services (left (goal.at.returns c).After-walk_without-after) in
    let served = served_met ends count now (clear row_words) all in
    let loss = loss_met ends count now (evicted (goal.at.returns c).After-walk-before) left lost in
    let mark = mark_met ends count now (evicted (goal.at.returns c).After-walk-before) left lost in
    λ i. record { served = served i; loss = loss i; mark = mark i }
