-- `add_up` adds the weight of each record to a counter, or to none. Assumes nothing.
use mathlib.Core.Path.{◌≡◌, refl, sym, ◌∙◌}
use mathlib.Core.Logic.{⊎_elim}
use native.Mathlib.Omega.{arith}
use Prim.Native.Nat.{◌<◌}
use lib.ListN.{length, get_or}
use Rattle.std.proofs.lemmas.List.{get_or_default}
use Rattle.picture.proofs.Finding.{scanning_begun, scanning_hit, scanning_miss, scanning_ended}
use Rattle.price.specs.Traffic.{records_of}
use Rattle.price.specs.Faults.{records_fault}
use Rattle.price.specs.Inner.{no_feeder}
use Rattle.price.proofs.Judged.{right_record, record_right, record_told}
use Rattle.price.proofs.Records.{records_length, record_small}
use Rattle.price.proofs.Adding.{summing_begun, summing_hit, summing_miss, summing_ended}
use Rattle.price.proofs.add_up.Goals as goal
use Rattle.price.proofs.add_up.Goals.{then-b-lt-BLOCKS_MAX, else-b-lt-BLOCKS_MAX}

pub loop-i-init : goal.loop-i-init
loop-i-init c = record { scanned = scanning_begun (records_length _); summing = summing_begun _ _ }

pub returns-then-r-eq0 : goal.returns-then-r-eq0
unfolding records_fault
returns-then-r-eq0 c =
    let d = c.args.d in
    scanning_hit c.loop-i.invariant.scanned (omega arith) c.nth_record-r.ensures
    (sym (record_told d _ (λ z. let k = right_record d _ z in ⊎_elim (λ e. absurd (omega (arith, k.0))) (λ n. absurd (omega (arith, k.1, n.1))) c.then-r-eq0.either)))
    (λ z. absurd (omega arith))

pub overflow_add-counters : goal.overflow_add-counters
overflow_add-counters c =
    omega (arith, c.loop-i.invariant.summing.small c.from-b.result, rw (← c.nth_record-r.ensures) at (record_small c.args.records.now c.loop-i.i), c.requires.0)

pub loop-i-preserved : goal.loop-i-preserved
loop-i-preserved c =
    let i = c.loop-i.invariant in
    let e = c.nth_record-r.ensures in
    let below : c.loop-i.i < length (records_of c.args.records.now) = omega (arith, records_length c.args.records.now) in
    let fed : c.from-b.result ≡ get_or c.args.feeders.now c.nth_record-r.result.endpoint no_feeder =
    c.from-b.ensures ∙ get_or_default _ c.nth_record-r.result.endpoint 0 no_feeder (omega (arith, c.told-feeders, c.requires.1, c.if-d-r.false)) in
    record {
      scanned = scanning_miss i.scanned (omega arith) e (sym (record_right c.args.d _ (omega arith) c.if-d-r.false)) refl;
      summing =
          elim c.if-b-lt-BLOCKS_MAX.branch [
            | then-b-lt-BLOCKS_MAX w ↦
                rw (w.counters-is, fed)
                (summing_hit _ _ c.loop-i.counters c.loop-i.i i.summing below e (rw fed at w.if-b-lt-BLOCKS_MAX.true)
                (rw (← e) at (record_small c.args.records.now c.loop-i.i)) refl)
            | else-b-lt-BLOCKS_MAX w ↦
                rw w.counters-is (summing_miss _ _ c.loop-i.counters c.loop-i.i i.summing below e (rw fed at w.if-b-lt-BLOCKS_MAX.false))
          ];
    }

pub returns : goal.returns
unfolding records_fault
returns c =
    let i = c.loop-i.invariant in
    (scanning_ended i.scanned (omega arith), summing_ended _ _ (omega (arith, records_length c.args.records.now)) i.summing)
