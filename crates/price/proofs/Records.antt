-- The records that bytes hold, by their numbers. Assumes nothing.
use mathlib.Core.Path.{◌≡◌}
use mathlib.Core.Logic.{by_cases}
use mathlib.Core.List.{List, [], ◌∷◌}
use Prim.Native.Nat.{ℕ, ◌+◌, ◌*◌, ◌/◌, ◌≤◌, ◌<◌, zero-le}
use native.Mathlib.Nat.{zero-add}
use native.Mathlib.Omega.{arith}
use native.Mathlib.Decide.{dec_lt}
use lib.ListN.{length, get_or, get_or-eq_default}
use Rattle.lists.specs.Lists.{sum}
use Rattle.bits.specs.Bits.{field_at}
use Rattle.bits.proofs.Reading.{field_at_lt}
use Rattle.picture.specs.Layout.{weight_max}
use Rattle.picture.proofs.Starts.{length_rows, row_at, field_first, field_second}
use Rattle.price.specs.declared.Record.{Record}
use Rattle.price.specs.Traffic.{record_widths, record_bytes, record_at, records_of, no_record}

module _ (bs : List ℕ) where
  pub records_length : length (records_of bs) ≡ length bs / record_bytes
  unfolding records_of
  records_length = length_rows (record_at bs) 0 (sum record_widths) (length bs / record_bytes)

  pub record_nth : (i : ℕ) → i < length bs / record_bytes → get_or (records_of bs) i no_record ≡ record_at bs (i * 24)
  unfolding records_of sum
  record_nth i h = rw zero-add at (row_at (record_at bs) no_record 0 (sum record_widths) (length bs / record_bytes) i h)

  -- as it is read, by bytes
  pub record_read : (i : ℕ) → i * record_bytes + record_bytes ≤ length bs → {c w : ℕ} → c ≡ field_at bs (i * record_bytes * 8) 8
      → w ≡ field_at bs ((i * record_bytes + 1) * 8) 16 → ◌≡◌ {A = Record} (record { endpoint = c; weight = w }) (get_or (records_of bs) i no_record)
  unfolding record_at
  record_read i m {c} {w} e q =
      let from : i * record_bytes * 8 ≡ i * 24 = omega arith in
      let next : (i * record_bytes + 1) * 8 ≡ i * 24 + 8 = omega arith in
      let e' = rw from at e in
      let q' = rw next at q in
      rw (record_nth i (omega arith), field_first bs 8 (16 ∷ []) (i * 24), field_second bs 8 16 [] (i * 24)) (λ j. record { endpoint = e' j; weight = q' j })

  -- a weight is a field of 16 bits
  pub record_small : (i : ℕ) → (get_or (records_of bs) i no_record).weight ≤ weight_max
  unfolding record_at
  record_small i =
      by_cases
      (dec_lt i (length bs / record_bytes))
      (λ h. rw (record_nth i h, field_second) (omega (arith, field_at_lt bs (i * 24 + 8) 16)))
      (λ g. rw (get_or-eq_default (records_of bs) no_record {n = i} (omega (arith, records_length))) zero-le)
