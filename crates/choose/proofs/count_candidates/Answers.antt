-- `count_candidates` counts the blocks that are marked. Assumes nothing.
use Rattle.std.proofs.Common.{arith, rules}
use borrow.Author.Tests.{tests}
use Rattle.lists.proofs.Chains.{count_ranged}
use Rattle.network.specs.Rows.{block_marked, blocks_marked}
use Rattle.choose.proofs.count_candidates.Goals as goal

pub returns : goal.returns
unfolding blocks_marked
returns c =
    let a = c.args in
    count_ranged (block_marked a.near a.size) 0 a.blocks c.count.ensures.ran c.filter.ensures.source (omega arith)
    c.filter.ensures.closure (λ x b q k. search (rules, tests))
