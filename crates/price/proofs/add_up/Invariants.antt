-- `add_up` adds the weight of each record to a counter, or to none. Assumes nothing.
use mathlib.Core.List.{List}
use Prim.Native.Nat.{ℕ, ◌/◌}
use lib.ListN.{length}
use Rattle.picture.proofs.Finding.{Scanning}
use Rattle.price.specs.Traffic.{no_record, record_bytes, records_of}
use Rattle.price.specs.Faults.{record_fault}
use Rattle.price.proofs.Adding.{Summing}
use Rattle.price.proofs.add_up.Given as goal

pub record Loop (records feeders counters : List ℕ) (d i : ℕ) : Type 0 where
  pub scanned : Scanning (record_fault d) no_record (records_of records) (length records / record_bytes) i
  pub summing : Summing feeders (records_of records) counters i

abbrev pub invariant-loop-i : goal.invariant-loop-i
invariant-loop-i l = Loop l.records l.feeders l.counters l.d l.i
