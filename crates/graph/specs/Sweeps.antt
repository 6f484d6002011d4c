-- What the steps of the walk do, at each location: entries made, rows swept, rows compared. Assumes nothing.
use Rattle.std.specs.Prelude.{Bool, false, ◌≡◌, ℕ, ◌≤◌, length, get_or, T}
use Rattle.std.specs.Int.Bits.{bit_and, bit_xor}
use Rattle.rows.specs.Ranges.{avoiding, LeftOut}
use Rattle.rows.specs.Rows.{marked, in_word, Narrow, locations_max, slots_max, row_words}
use Rattle.graph.specs.declared.Forest.{Forest}
use Rattle.graph.specs.declared.Level.{Level}
use Rattle.graph.specs.declared.Walker.{Walker}

-- the marks are locations': none is above the last slot
pub record Locations (marks : ℕ → Bool) : Type 0 where
  pub within : (v : ℕ) → T (marks v) → v ≤ slots_max

-- the arrays of the entries have a place for every location
pub record Whole (f : Forest) : Type 0 where
  pub parents : length f.parent ≡ locations_max
  pub depths : length f.depth ≡ locations_max

-- a walk is as the sweeps need it: the row of the fresh slots has its words, and marks no more than locations, in the first of them
pub record Ready (words : ℕ) (w : Walker) : Type 0 where
  pub long : length w.fresh ≡ row_words
  pub narrow : Narrow words w.fresh
  pub locations : Locations (marked w.fresh)
  pub whole : Whole w.forest

-- the marked slots get the parent u and the depth d, and every other slot keeps its entry
pub record Entered (marks : ℕ → Bool) (u d : ℕ) (before after : Forest) : Type 0 where
  pub whole : Whole after
  pub new_parent : (v : ℕ) → T (marks v) → get_or after.parent v 0 ≡ u
  pub new_depth : (v : ℕ) → T (marks v) → get_or after.depth v 0 ≡ d
  pub old_parent : (v : ℕ) → ¬ T (marks v) → get_or after.parent v 0 ≡ get_or before.parent v 0
  pub old_depth : (v : ℕ) → ¬ T (marks v) → get_or after.depth v 0 ≡ get_or before.depth v 0

-- one word of a row is swept, whose first place is location base: those of the fresh slots that it marks are entered, but for those of a range,
-- and the others are left
pub record WordSwept (l : Level) (word fresh base u : ℕ) (before after : Forest) (left : ℕ) : Type 0 where
  pub new : ℕ
  pub found : LeftOut l.block (bit_and word fresh) base new
  pub entered : Entered (in_word new base) u l.depth before after
  pub same : left ≡ bit_xor fresh new

-- the location u of the frontier has a link to v
pub record Finds (frontier : ℕ → Bool) (linked : ℕ → ℕ → Bool) (v u : ℕ) : Type 0 where
  pub there : T (frontier u)
  pub link : T (linked u v)

-- u is the lowest location that finds
pub record First (finds : ℕ → Type 0) (u : ℕ) : Type 0 where
  pub found : finds u
  pub lowest : (w : ℕ) → finds w → u ≤ w

-- what a sweep at depth d does to one slot, of which `finds` says what finds it: whether it is fresh, its parent and its depth,
-- before and after. A fresh slot that is found gets the lowest finder and the depth, and is fresh no more
pub data Sweep (finds : ℕ → Type 0) (d : ℕ) (fresh : Bool) (p k : ℕ) : Bool → ℕ → ℕ → Type 0 where
  entered : {u : ℕ} → T fresh → First finds u → Sweep finds d fresh p k false u d
  kept : (T fresh → (u : ℕ) → finds u → ⊥) → Sweep finds d fresh p k fresh p k

-- the rows of a frontier are swept: every slot, in the row of the fresh ones and in the entries, by the links that do not lead into the block
pub record Swept (l : Level) (frontier : ℕ → Bool) (linked : ℕ → ℕ → Bool) (before after : Walker) : Type 0 where
  pub ready : Ready l.words after
  pub slot : (v : ℕ) → Sweep (Finds frontier (avoiding l.block linked) v) l.depth
      (marked before.fresh v) (get_or before.forest.parent v 0) (get_or before.forest.depth v 0)
      (marked after.fresh v) (get_or after.forest.parent v 0) (get_or after.forest.depth v 0)
