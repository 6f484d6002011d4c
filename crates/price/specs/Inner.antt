-- What the functions within pricing give. Inner: nothing here is promised. Assumes nothing.
use Rattle.std.specs.Prelude.{◌&&◌, ◌||◌, cond, List, [], ◌∷◌, map, ◌≡◌, ℕ, suc, ◌-◌, ◌/◌, Result, MatchResult, eqb, ltb, length, get_or}
use Rattle.lists.specs.Lists.{range, on, sum}
use Rattle.rows.specs.Rows.{marked, locations_max}
use Rattle.picture.specs.declared.Link.{Link}
use Rattle.picture.specs.declared.refusals.Refusal.{Refusal}
use Rattle.picture.specs.Refusals.{refusal_number}
use Rattle.picture.specs.Layout.{blocks_max, endpoints_max}
use Rattle.picture.specs.Picture.{Picture}
use Rattle.network.specs.Words.{is_held, joins}
use Rattle.price.specs.declared.Record.{Record}
use Rattle.price.specs.Faults.{flat_fault, records_fault}

-- the row of the slots that are held and have a link from the origin
pub record ReachedRow (p : Picture) (row : List ℕ) : Type 0 where
  pub marks : (v : ℕ) → marked row v ≡ (ltb 0 v && (is_held p v && joins p.links 0 v))

-- that row, or the refusal of a link that starts elsewhere
abbrev pub SlotsReached : Picture → Result (List ℕ) Refusal → Type 0
SlotsReached p r = MatchResult r (λ row. (0 ≡ flat_fault p) × ReachedRow p row) (λ e. refusal_number e ≡ flat_fault p)

-- what is told of an endpoint: the number of a block, that there is no feeder, or that no block is its one feeder
abbrev pub no_feeder : ℕ
no_feeder = 254

abbrev pub not_one : ℕ
not_one = 255

-- what a service link from location v tells
unfoldable pub told : Picture → ℕ → ℕ
told p v = cond (eqb v 0) not_one (cond (is_held p v && joins p.links 0 v) ((v - 1) / p.block_size) no_feeder)

-- what two tell together
unfoldable pub joint : ℕ → ℕ → ℕ
joint one other = cond (eqb one no_feeder || eqb one other) other (cond (eqb other no_feeder) one not_one)

-- what all service links to endpoint c tell together, where those from v tell k v
unfoldable pub jointly : (ℕ → ℕ) → ℕ → List Link → ℕ
jointly k c [] = no_feeder
jointly k c (l ∷ ls) = cond (eqb l.to c) (joint (k l.from) (jointly k c ls)) (jointly k c ls)

-- what is told at each location
pub record LocationsTell (p : Picture) (feeders : List ℕ) : Type 0 where
  pub many : length feeders ≡ locations_max
  pub same : (v : ℕ) → get_or feeders v no_feeder ≡ told p v

-- what is told of each endpoint
pub record EndpointsTell (p : Picture) (feeders : List ℕ) : Type 0 where
  pub many : length feeders ≡ suc endpoints_max
  pub same : (c : ℕ) → get_or feeders c no_feeder ≡ jointly (told p) c p.service_links

-- the weight of the records whose endpoint b alone feeds
unfoldable pub fed : List ℕ → List Record → ℕ → ℕ
fed feeders rs b = sum (map (λ r. on (eqb (get_or feeders r.endpoint no_feeder) b) r.weight) rs)

-- these sums for each block, or the refusal of a record's endpoint
abbrev pub Adding : List ℕ → ℕ → List Record → Result (List ℕ) Refusal → Type 0
Adding feeders d rs r =
    MatchResult r (λ counters. (0 ≡ records_fault d rs) × (counters ≡ map (fed feeders rs) (range 0 blocks_max))) (λ e. refusal_number e ≡ records_fault d rs)
