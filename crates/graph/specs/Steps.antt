-- What the walk gives. Assumes nothing.
use Rattle.std.specs.Prelude.{Bool, List, ◌≡◌, ℕ, ◌<◌, get_or, T}
use Rattle.graph.specs.Chains.{Reached, Entry}

-- the forest of the chains over some links and held locations, in arrays that start at location 0, and a row that marks what is reached
pub record Walked (linked : ℕ → ℕ → Bool) (held : ℕ → Bool) (reaches : ℕ → Bool) (parent depth : List ℕ) : Type 0 where
  pub entry : (v : ℕ) → 0 < v → Entry linked held v (get_or parent v 0) (get_or depth v 0)
  pub parent_origin : get_or parent 0 0 ≡ 0
  pub depth_origin : get_or depth 0 0 ≡ 0
  pub marks_reached : (v : ℕ) → T (reaches v) → Reached linked held v
  pub reached_marks : (v : ℕ) → Reached linked held v → T (reaches v)
