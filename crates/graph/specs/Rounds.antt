-- What chains reach and the forest of fewest links, by computation: marks that grow round by round. The laws show them equal to chains.
-- Assumes nothing.
use Rattle.std.specs.Prelude.{Bool, false, ◌&&◌, ◌||◌, List, [], map, ℕ, zero, suc, ◌+◌, eqb, get_or}
use Rattle.lists.specs.Lists.{range, on, any, place, lowest}
use Rattle.graph.specs.declared.Node.{Node}

module _ (linked : ℕ → ℕ → Bool) (held : ℕ → Bool) (n : ℕ) where
  -- one round more: marked already, or held and linked from a location that is marked
  unfoldable pub further : List Bool → ℕ → Bool
  further t v = get_or t v false || (held v && any (λ a. get_or t a false && linked a v) (range 0 (suc n)))

  -- the marks of locations 0 to n after k rounds: which end a chain of at most k links
  unfoldable pub within : ℕ → List Bool
  within zero = map (λ v. eqb v 0) (range 0 (suc n))
  within (suc k) = let t : List Bool = within k in map (further t) (range 0 (suc n))

  -- the marks of what is reached: a chain needs no more than n links
  unfoldable pub reached_in : List Bool
  reached_in = within n

  -- the marks after 0, 1, .., n rounds
  unfoldable pub levels : List (List Bool)
  levels = map within (range 0 (suc n))

  -- the fewest links to a location that the last level marks: the first level that does
  unfoldable pub depth_in : List (List Bool) → ℕ → ℕ
  depth_in ls v = place (λ t. get_or t v false) ls

  unfoldable pub reached_by : List (List Bool) → ℕ → Bool
  reached_by ls v = get_or (get_or ls n []) v false

  -- unreached is 0 and 0; else the depth, and the lowest location of depth one less with a link to the slot
  unfoldable pub node_in : List (List Bool) → ℕ → Node
  node_in ls v =
      record {
        parent = on (reached_by ls v) (lowest (λ a. reached_by ls a && eqb (depth_in ls a + 1) (depth_in ls v) && linked a v) (range 0 (suc n)));
        depth = on (reached_by ls v) (depth_in ls v);
      }

  -- the forest: a node for each slot 1 to n
  unfoldable pub forest : List Node
  forest = let ls : List (List Bool) = levels in map (node_in ls) (range 1 n)
