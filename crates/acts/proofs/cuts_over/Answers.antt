-- `cuts_over` judges a block by the chains through a row of slots. Assumes nothing.
use Rattle.network.proofs.Blocks.{read_block}
use Rattle.weigh.proofs.Serving.{slots_only_lem, walk_narrow, sums_ready}
use Rattle.acts.proofs.Cutting.{mark_cuts}
use Rattle.acts.proofs.cuts_over.Goals as goal

pub block_range-block-requires : goal.block_range-block-requires
block_range-block-requires c = read_block _ _ c.header-h.ensures _ c.requires.block

pub walk-before-requires : goal.walk-before-requires
walk-before-requires c = slots_only_lem c.header-h.ensures c.requires.slots.1

pub walk_without-after-requires : goal.walk_without-after-requires
walk_without-after-requires c = slots_only_lem c.header-h.ensures c.requires.slots.1

pub lost_between-lost-requires : goal.lost_between-lost-requires
lost_between-lost-requires c =
    let row = c.requires.slots.1 in
    sums_ready _ _ c.header-h.ensures c.requires.tables
    (walk_narrow c.header-h.ensures row _ c.words_for-words.ensures c.walk-before.ensures)
    (walk_narrow c.header-h.ensures row _ c.words_for-words.ensures c.walk_without-after.ensures)

pub returns : goal.returns
returns c held row =
    mark_cuts c.header-h.ensures c.requires.tables row c.args.b c.walk-before.ensures (rw c.block_range-block.ensures at c.walk_without-after.ensures) c.lost_between-lost.ensures
