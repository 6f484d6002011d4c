-- The rules of what is asked for, with their numbers, in the order in which they are judged: the reader's for sizes and counts. Document 02,
-- C-13: "Bad sizes get 3 or 4, S above 0 with D 0 gets 4, and then a short buffer 9". Assumes nothing.
use Rattle.std.specs.Prelude.{List, [], ◌∷◌, ◌++◌, ◌≡◌, ℕ, ◌*◌, ◌≤◌, length}
use Rattle.lists.specs.Rules.{Rule}
use Rattle.picture.specs.declared.Header.{Header}
use Rattle.picture.specs.Layout.{block_size_max, blocks_max, edition1, size_of}
use Rattle.picture.specs.Rules.{Sizes, Counts}

-- what the reader's rule of β and n comes to where n is β times the block count
pub record Blocks (b blocks : ℕ) : Type 0 where
  pub size_some : 1 ≤ b
  pub size_most : b ≤ block_size_max
  pub blocks_some : 1 ≤ blocks
  pub blocks_most : blocks ≤ blocks_max
  pub slots_most : b * blocks ≤ edition1.slots_max

-- the rules of the header that is asked for
unfoldable pub asked_rules : Header → List Rule
asked_rules h =
    record { number = 3; holds = Sizes h }
    ∷ record { number = 4; holds = Counts h }
    ∷ record { number = 4; holds = h.endpoints ≡ 0 → h.service_links ≡ 0 }
    ∷ []

-- and the buffer's, last
unfoldable pub generate_rules : Header → List ℕ → List Rule
generate_rules h buf = asked_rules h ++ (record { number = 9; holds = size_of h ≤ length buf } ∷ [])
