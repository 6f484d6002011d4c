-- Held locations as a row marks them. Assumes nothing.
use Rattle.std.specs.Prelude.{Bool, ◌||◌, List, ℕ, ◌≤◌, ◌<◌, T, eqb}
use Rattle.rows.specs.Rows.{marked, slots_max}

-- a location is held: the origin always is, a slot where the row marks it
unfoldable pub held_in : List ℕ → ℕ → Bool
held_in row v = eqb v 0 || marked row v

-- every mark of a row is that of one of the slots 1 to n
pub record SlotsOnly (n : ℕ) (row : List ℕ) : Type 0 where
  pub most : n ≤ slots_max
  pub above : (v : ℕ) → T (marked row v) → 0 < v
  pub within : (v : ℕ) → T (marked row v) → v ≤ n
