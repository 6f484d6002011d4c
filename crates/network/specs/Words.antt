-- Blocks, held, served, cut, served weight, loss, candidates: document 01, "Words"; and the number of endpoints cut: 02, C-12. Chains are in
-- the crate `graph`, and near is a field of a slot. Assumes nothing.
use Rattle.std.specs.Prelude.{Bool, true, not, ◌&&◌, List, ℕ, zero, suc, ◌+◌, ◌*◌, ◌/◌, ◌≤◌, T, eqb, leb, length}
use Rattle.lists.specs.Lists.{any}
use Rattle.lists.specs.Totals.{Total}
use Rattle.graph.specs.Chains.{Reached}
use Rattle.picture.specs.declared.Link.{Link}
use Rattle.picture.specs.Picture.{Picture, slot_of, endpoint_of}

-- n: locations 1 to n are slots
unfoldable pub slot_count : Picture → ℕ
slot_count p = length p.slots

-- D: endpoints (01: cabs) 1 to D
unfoldable pub endpoint_count : Picture → ℕ
endpoint_count p = length p.endpoints

-- n/β: blocks are counted from 0
unfoldable pub block_count : Picture → ℕ
block_count p = slot_count p / p.block_size

-- block b holds locations bβ + 1 to bβ + β
unfoldable pub in_block : Picture → ℕ → ℕ → Bool
in_block p b v = leb (b * p.block_size + 1) v && leb v (b * p.block_size + p.block_size)

-- location 0, the origin (01: the office), always holds the bundle; a slot does in state 0
unfoldable pub is_held : Picture → ℕ → Bool
is_held p zero = true
is_held p (suc i) = eqb (slot_of p (suc i)).state 0

-- the locations of `held` without the slots of block b
unfoldable pub without_block : Picture → (ℕ → Bool) → ℕ → ℕ → Bool
without_block p held b v = held v && not (in_block p b v)

-- held once b's slots are not
abbrev pub held_without : Picture → ℕ → ℕ → Bool
held_without p = without_block p (is_held p)

-- one of the links leads from a to b: a repeated link counts once
unfoldable pub joins : List Link → ℕ → ℕ → Bool
joins ls a b = any (λ l. eqb l.from a && eqb l.to b) ls

-- an endpoint is served if some reached location has a service link (01: serving link) to it. `held` says what counts as held: 01's is `is_held`
pub record Served (p : Picture) (held : ℕ → Bool) (c : ℕ) : Type 0 where
  pub location : ℕ
  pub serves : T (joins p.service_links location c)
  pub reached : Reached (joins p.links) held location

-- an endpoint loses its service: it is served over the locations of `earlier`, and not over those of `later`
pub record Loses (p : Picture) (earlier later : ℕ → Bool) (c : ℕ) : Type 0 where
  pub before : Served p earlier c
  pub after : ¬ Served p later c

-- evicting b cuts an endpoint that is served now and isn't once b's slots are not held
abbrev pub Cuts : Picture → ℕ → ℕ → Type 0
Cuts p b = Loses p (is_held p) (held_without p b)

-- the weight of an endpoint
unfoldable pub weight_of : Picture → ℕ → ℕ
weight_of p c = (endpoint_of p c).weight

-- s is the sum of w over the endpoints of which P holds, each once
abbrev pub Sum : Picture → (ℕ → ℕ) → (ℕ → Type 0) → ℕ → Type 0
Sum p w P s = Total P w 1 (endpoint_count p) s

-- the served weight is the sum of the weights of the endpoints served, each once
abbrev pub ServedWeight : Picture → (ℕ → Bool) → ℕ → Type 0
ServedWeight p held = Sum p (weight_of p) (Served p held)

-- the loss of b is the sum of the weights of the endpoints that it cuts, each once
abbrev pub Loss : Picture → ℕ → ℕ → Type 0
Loss p b = Sum p (weight_of p) (Cuts p b)

-- how many endpoints b cuts (02: cabs cut), each once, whatever they weigh
abbrev pub CutCount : Picture → ℕ → ℕ → Type 0
CutCount p b = Sum p (λ _. 1) (Cuts p b)

-- a protected endpoint loses its service
pub record LosesProtected (p : Picture) (earlier later : ℕ → Bool) : Type 0 where
  pub endpoint : ℕ
  pub some : 1 ≤ endpoint
  pub most : endpoint ≤ endpoint_count p
  pub protected : T (endpoint_of p endpoint).protected
  pub cut : Loses p earlier later endpoint

-- b cuts a protected endpoint
abbrev pub CutsProtected : Picture → ℕ → Type 0
CutsProtected p b = LosesProtected p (is_held p) (held_without p b)

-- a candidate is a block with at least one held near slot
pub record Candidate (p : Picture) (b : ℕ) : Type 0 where
  pub slot : ℕ
  pub inside : T (in_block p b slot)
  pub held : T (is_held p slot)
  pub near : T (slot_of p slot).near

-- it is admissible if it cuts no protected endpoint
abbrev pub Admissible : Picture → ℕ → Type 0
Admissible p b = ¬ CutsProtected p b

-- links lead between the picture's own locations, and service links from them to its own endpoints: so do those of every accepted picture
-- (`accepted_named`, proofs/Named.antt). What is computed goes over these locations and endpoints alone
pub record Named (p : Picture) : Type 0 where
  pub links : (a b : ℕ) → T (joins p.links a b) → (a ≤ slot_count p) × (b ≤ slot_count p)
  pub services : (a c : ℕ) → T (joins p.service_links a c) → (a ≤ slot_count p) × (1 ≤ c) × (c ≤ endpoint_count p)
