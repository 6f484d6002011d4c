-- The rules that a call is judged by, in their order. 02, C-16. Assumes nothing.
use Rattle.std.specs.Prelude.{List, [], ◌∷◌, ◌++◌, ◌≡◌, ℕ, ◌*◌, ◌%◌, ◌≤◌, ◌<◌, length, get_or}
use Rattle.lists.specs.Rules.{Rule}
use Rattle.picture.specs.Picture.{picture_of}
use Rattle.picture.specs.Rules.{rules}
use Rattle.network.specs.Words.{endpoint_count}
use Rattle.price.specs.declared.Record.{Record}
use Rattle.price.specs.Traffic.{no_record, record_bytes, records_max, records_of}
use Rattle.price.specs.Feeders.{Flat}

-- not so: "a record length that isn't a multiple of three or exceeds 60,000 records"
pub record Whole (records : List ℕ) : Type 0 where
  pub multiple : length records % record_bytes ≡ 0
  pub most : length records ≤ records_max * record_bytes

-- not so: "a record for cab 0 or above D"
pub record Endpoints (d : ℕ) (rs : List Record) : Type 0 where
  pub some : (i : ℕ) → i < length rs → 1 ≤ (get_or rs i no_record).endpoint
  pub most : (i : ℕ) → i < length rs → (get_or rs i no_record).endpoint ≤ d

-- the rules with their numbers: "After the picture checks 19 is a link starting elsewhere, then 20 is a record length that .., then 21 is a record
-- for cab 0 or above D"
unfoldable pub price_rules : List ℕ → List ℕ → List Rule
price_rules bs records =
    rules bs
    ++ (record { number = 19; holds = Flat (picture_of bs) }
    ∷ record { number = 20; holds = Whole records }
    ∷ record { number = 21; holds = Endpoints (endpoint_count (picture_of bs)) (records_of records) }
    ∷ [])
