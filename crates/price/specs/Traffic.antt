-- Traffic records. 02, C-16: "traffic records, each cab 8 and weight 16 bits, high byte first". Assumes nothing.
use Rattle.std.specs.Prelude.{List, [], ◌∷◌, map, ℕ, ◌/◌, eqb, length}
use Rattle.lists.specs.Lists.{on, sum}
use Rattle.picture.specs.Layout.{field_in}
use Rattle.picture.specs.Picture.{rows}
use Rattle.price.specs.declared.Record.{Record}

-- the widths of a record's fields, an endpoint (02: cab) and its weight, and the bytes that they fill
abbrev pub record_widths : List ℕ
record_widths = 8 ∷ 16 ∷ []

abbrev pub record_bytes : ℕ
record_bytes = 3

-- the most records
abbrev pub records_max : ℕ
records_max = 60000

-- the record that starts at bit p
unfoldable pub record_at : List ℕ → ℕ → Record
record_at bs p = record { endpoint = field_in bs record_widths p 0; weight = field_in bs record_widths p 1 }

-- what bytes say: one record after the other
unfoldable pub records_of : List ℕ → List Record
records_of bs = rows (record_at bs) 0 (sum record_widths) (length bs / record_bytes)

-- a record that no list has, for a place past its end
abbrev pub no_record : Record
no_record = record { endpoint = 0; weight = 0 }

-- "a cab weighs the sum of its records"
unfoldable pub traffic : List Record → ℕ → ℕ
traffic rs c = sum (map (λ r. on (eqb r.endpoint c) r.weight) rs)
