-- A picture's network as rows of marks: what the functions that make them give. Inner: nothing here is promised. Assumes nothing.
use Rattle.std.specs.Prelude.{Bool, false, List, ◌≡◌, ℕ, suc, ◌+◌, ◌*◌, length, get_or, replicate}
use Rattle.lists.specs.Lists.{range, any, filter}
use Rattle.rows.specs.declared.Range.{Range}
use Rattle.rows.specs.Rows.{marked, linked_in, locations_max}
use Rattle.graph.specs.Held.{held_in, SlotsOnly}
use Rattle.picture.specs.Picture.{Picture, endpoint_of}
use Rattle.picture.specs.Layout.{endpoints_max}
use Rattle.network.specs.declared.Tables.{Tables}
use Rattle.network.specs.Words.{slot_count, is_held, joins, weight_of}
use Rattle.network.specs.Tests.{is_near_held}

-- k rows that mark nothing
pub record Clear (k : ℕ) (table : List (List ℕ)) : Type 0 where
  pub many : length table ≡ k
  pub none : (a b : ℕ) → linked_in table a b ≡ false

-- k rows that mark b in row a exactly where f says so
pub record RowsOf (k : ℕ) (f : ℕ → ℕ → Bool) (table : List (List ℕ)) : Type 0 where
  pub many : length table ≡ k
  pub same : (a b : ℕ) → linked_in table a b ≡ f a b

-- a row that marks just the slots of `held`
pub record HeldRow (p : Picture) (held : ℕ → Bool) (row : List ℕ) : Type 0 where
  pub only : SlotsOnly (slot_count p) row
  pub same : (v : ℕ) → held_in row v ≡ held v

-- the rows of the held slots and of the held near slots
pub record SlotRowsOf (p : Picture) (holding nearby : List ℕ) : Type 0 where
  pub held : HeldRow p (is_held p) holding
  pub near : (v : ℕ) → marked nearby v ≡ is_near_held p v

-- the weights of the endpoints by their numbers, and the row of the protected ones
pub record EndpointsOf (p : Picture) (weights guarded : List ℕ) : Type 0 where
  pub many : length weights ≡ suc endpoints_max
  pub weight : (c : ℕ) → get_or weights c 0 ≡ weight_of p c
  pub protected : (c : ℕ) → marked guarded c ≡ (endpoint_of p c).protected

-- tables of nothing
pub record Empty (t : Tables) : Type 0 where
  pub links : Clear locations_max t.links
  pub services : Clear (suc endpoints_max) t.services
  pub weights : t.weights ≡ replicate (suc endpoints_max) 0

-- the tables of a picture
pub record TablesOf (p : Picture) (t : Tables) : Type 0 where
  pub links : RowsOf locations_max (joins p.links) t.links
  pub services : RowsOf (suc endpoints_max) (λ c a. joins p.service_links a c) t.services
  pub ends : EndpointsOf p t.weights t.protected

-- the slots of a block by their numbers: b times the block size plus 1 to b times the block size plus the block size
abbrev pub block_range : ℕ → ℕ → Range
block_range size b = record { after = b * size; last = b * size + size }

-- a slot of block b is marked
unfoldable pub block_marked : List ℕ → ℕ → ℕ → Bool
block_marked near size b = any (marked near) (range (b * size + 1) size)

-- the blocks with a marked slot, in rising order
unfoldable pub blocks_marked : List ℕ → ℕ → ℕ → List ℕ
blocks_marked near size blocks = filter (block_marked near size) (range 0 blocks)
