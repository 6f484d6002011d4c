-- What pricing computes is what 02 says, by chains. Assumes nothing.
use mathlib.Core.Path.{◌≡◌, refl, sym, ap, ap₂, ◌∙◌, subst, fun_ext}
use mathlib.Core.Bool.{Bool}
use mathlib.Core.Logic.{by_cases}
use mathlib.Core.List.{List, ◌∷◌, ◌++◌, map}
use Prim.Native.Nat.{ℕ, zero, suc, ◌+◌, ◌-◌, ◌%◌, ◌^◌, ◌≤◌, ◌<◌}
use native.Mathlib.Omega.{arith}
use native.Mathlib.Decide.{dec_lt}
use native.Mathlib.Nat.{zero-add, suc-add}
use borrow.Author.Tests.{lt-ltb}
use lib.Dec.{T, eqb, ltb, eqb→eq, ltb→lt}
use lib.ListN.{length, get_or, replicate, length-map, get_or-eq_default}
use Rattle.lists.specs.Lists.{range, on, sum}
use Rattle.lists.proofs.Tests.{eq_T}
use Rattle.lists.proofs.Alls.{same_test}
use Rattle.lists.proofs.Ranges.{length_range, get_d_map_range, map_range_same}
use Rattle.lists.proofs.Faults.{on_le}
use Rattle.lists.proofs.Sums.{sum_le}
use Rattle.picture.specs.Layout.{blocks_max, weight_max}
use Rattle.picture.specs.Picture.{Picture, header_of, picture_of}
use Rattle.picture.specs.Faults.{picture_fault}
use Rattle.picture.specs.Inner.{Read}
use Rattle.picture.proofs.Accepted.{accepted_kept}
use Rattle.network.specs.Words.{slot_count, endpoint_count, block_count, is_held, held_without, Cuts, Sum, Named}
use Rattle.network.specs.Tests.{marks, cut, sum_where}
use Rattle.network.proofs.Named.{accepted_named}
use Rattle.network.proofs.Blocks.{read_block_size, read_slots, blocks_small}
use Rattle.network.proofs.Service.{cut_loses, loses_cut}
use Rattle.network.proofs.Weights.{cut_sum}
use Rattle.price.specs.declared.Record.{Record}
use Rattle.price.specs.Traffic.{records_of, traffic}
use Rattle.price.specs.Feeders.{Flat, OnlyFeeder, Added, WeightOf, Priced}
use Rattle.price.specs.Rules.{Endpoints}
use Rattle.price.specs.Faults.{price_fault}
use Rattle.price.specs.Answers.{counters}
use Rattle.price.specs.Inner.{told, jointly, EndpointsTell, fed}
use Rattle.price.proofs.Judged.{priced_right}
use Rattle.price.proofs.Records.{records_length, record_small}
use Rattle.price.proofs.Flat.{flat_cuts}
use Rattle.price.proofs.Sums.{traffic_sum, record_total, blocks_sum, records_le}
use Rattle.price.proofs.Feeding.{feeder_only, only_below, only_feeder}

-- what w says over a range, filled up with 0, is what it says over a longer range, where it says 0 from there on
padded : (w : ℕ → ℕ) (i k j : ℕ) → ((c : ℕ) → i + k ≤ c → w c ≡ 0) → map w (range i k) ++ replicate j 0 ≡ map w (range i (k + j))
unfolding range
padded w i zero zero h = refl
padded w i zero (suc j) h =
    rw zero-add
    (ap₂ (λ (x : ℕ) (l : List ℕ). x ∷ l) (sym (h i (omega arith))) (rw zero-add at (padded w (suc i) 0 j (λ c l. h c (omega arith)))))
padded w i (suc k) j h = rw suc-add (ap (λ (l : List ℕ). w i ∷ l) (padded w (suc i) k j (λ c l. h c (omega arith))))

module _ (bs : List ℕ) (z : picture_fault bs ≡ 0) (f : Flat (picture_of bs)) where
  abbrev p : Picture
  p = picture_of bs

  -- ---- an accepted picture: its header, its links, and its blocks

  abbrev read : Read bs (header_of bs)
  read = record { accepted = z; header = refl }

  named : Named p
  named = accepted_named bs z

  size_some : 1 ≤ p.block_size
  size_some = omega (arith, read_block_size bs (header_of bs) read, (accepted_kept bs z).sizes.size_some)

  slots_whole : slot_count p % p.block_size ≡ 0
  slots_whole =
      ap₂ (λ (n size : ℕ). n % size) (read_slots bs (header_of bs) read) (read_block_size bs (header_of bs) read)
      ∙ (accepted_kept bs z).sizes.multiple

  blocks_few : block_count p ≤ blocks_max
  blocks_few = blocks_small bs z

  -- ---- what is told, and what a block cuts as a test, is the one feeder

  -- what the service links to an endpoint tell together
  abbrev tells : ℕ → ℕ
  tells c = jointly (told p) c p.service_links

  -- is the number of the one feeder, where it is that of a block
  tells_only : (b c : ℕ) → b < blocks_max → tells c ≡ b → OnlyFeeder p b c
  tells_only = feeder_only f named size_some slots_whole blocks_few

  only_tells : {b c : ℕ} → OnlyFeeder p b c → tells c ≡ b
  only_tells = only_feeder f named size_some slots_whole blocks_few

  feeder_below : {b c : ℕ} → OnlyFeeder p b c → b < block_count p
  feeder_below = only_below f named size_some slots_whole blocks_few

  -- so some block is the one feeder where the number is that of a block
  tells_added : (c : ℕ) → T (ltb (tells c) blocks_max) → Added p c
  tells_added c t = record { block = tells c; feeder = tells_only (tells c) c (ltb→lt (tells c) blocks_max t) refl }

  added_tells : (c : ℕ) → Added p c → T (ltb (tells c) blocks_max)
  added_tells c a = rw (lt-ltb (tells c) blocks_max (omega (arith, only_tells a.feeder, feeder_below a.feeder, blocks_few))) tt

  -- b cuts c
  abbrev cuts : ℕ → ℕ → Bool
  cuts b = cut p (marks p (is_held p)) (marks p (held_without p b))

  -- where b is the one feeder of c
  cuts_feeder : (b c : ℕ) → T (cuts b c) → OnlyFeeder p b c
  cuts_feeder b c t = (flat_cuts f size_some b c).0 (cut_loses named c t)

  feeder_cuts : (b c : ℕ) → OnlyFeeder p b c → T (cuts b c)
  feeder_cuts b c o = loses_cut named ((flat_cuts f size_some b c).1 o)

  -- and so where b is told
  cuts_told : (b c : ℕ) → b < blocks_max → cuts b c ≡ eqb (tells c) b
  cuts_told b c l =
      same_test (cuts b c) (eqb (tells c) b) (λ t. eq_T (tells c) b (only_tells (cuts_feeder b c t)))
      (λ t. feeder_cuts b c (tells_only b c l (eqb→eq (tells c) b t)))

  -- ---- the counters are the losses

  module _ (rs : List Record) where
    abbrev loss : ℕ → ℕ
    loss b = sum_where p (traffic rs) (cuts b)

    -- a block that is not there cuts nothing
    loss_past : (b : ℕ) → block_count p ≤ b → loss b ≡ 0
    unfolding sum_where
    loss_past b l =
        omega (
          arith,
          sum_le (λ c. on (cuts b c) (traffic rs c)) 0 1 (endpoint_count p)
              (λ c. on_le (cuts b c) (traffic rs c) 0 (λ t. absurd (omega (arith, feeder_below (cuts_feeder b c t))))),
        )

    -- so there is one counter for each number of a block
    counters_losses : counters p rs ≡ map loss (range 0 blocks_max)
    unfolding counters
    counters_losses =
        let e : block_count p + (blocks_max - block_count p) ≡ blocks_max = omega (arith, blocks_few) in
        padded loss 0 (block_count p) (blocks_max - block_count p) (λ b l. loss_past b (omega arith)) ∙ ap (λ (k : ℕ). map loss (range 0 k)) e

    counters_many : length (counters p rs) ≡ blocks_max
    counters_many = ap length counters_losses ∙ length-map (range 0 blocks_max) loss ∙ length_range 0 blocks_max

    counter_loss : (b : ℕ) → get_or (counters p rs) b 0 ≡ loss b
    counter_loss b =
        by_cases
        (dec_lt b blocks_max)
        (λ l. ap (λ (cs : List ℕ). get_or cs b 0) counters_losses ∙ get_d_map_range loss 0 0 blocks_max b l ∙ ap loss (zero-add b))
        (λ n. get_or-eq_default (counters p rs) 0 (omega (arith, counters_many)) ∙ sym (loss_past b (omega (arith, blocks_few))))

    -- ---- and sums over records, where each is of an endpoint

    module _ (k : Endpoints (endpoint_count p) rs) where
      -- by what the block cuts
      loss_records : (b : ℕ) → loss b ≡ sum (map (λ r. on (cuts b r.endpoint) r.weight) rs)
      unfolding sum_where
      loss_records b = traffic_sum rs (cuts b) (endpoint_count p) (λ i h. (k.some i h, k.most i h))

      -- by what is told
      loss_told : (b : ℕ) → b < blocks_max → loss b ≡ sum (map (λ r. on (eqb (tells r.endpoint) b) r.weight) rs)
      loss_told b l = loss_records b ∙ ap (λ (g : ℕ → Bool). sum (map (λ r. on (g r.endpoint) r.weight) rs)) (fun_ext (λ c. cuts_told b c l))

      counters_told : map (λ b. sum (map (λ r. on (eqb (tells r.endpoint) b) r.weight) rs)) (range 0 blocks_max) ≡ counters p rs
      counters_told = map_range_same _ loss 0 0 blocks_max (λ b l. sym (loss_told (0 + b) (rw zero-add l))) ∙ sym counters_losses

      -- all of them together
      counters_together : sum (counters p rs) ≡ sum (map (λ r. on (ltb (tells r.endpoint) blocks_max) r.weight) rs)
      counters_together = ap sum (sym counters_told) ∙ blocks_sum tells rs blocks_max

      -- what is computed with an array of what is told
      pub fed_counters : {feeders : List ℕ} → EndpointsTell p feeders → map (fed feeders rs) (range 0 blocks_max) ≡ counters p rs
      unfolding fed
      fed_counters {feeders} t =
          ap (λ (g : ℕ → ℕ). map (λ b. sum (map (λ r. on (eqb (g r.endpoint) b) r.weight) rs)) (range 0 blocks_max)) (fun_ext t.same) ∙ counters_told

      -- all that 02 says of the counters, for numbers of 32 bits
      priced_by : sum (counters p rs) < 2 ^ 32 → Priced p rs (counters p rs)
      priced_by l =
          record {
            many = counters_many;
            records =
                λ b.
                subst (WeightOf rs (OnlyFeeder p b)) (sym (counter_loss b ∙ loss_records b))
                (record_total (OnlyFeeder p b) (cuts b) rs (cuts_feeder b) (feeder_cuts b));
            loss = λ b. subst (Sum p (traffic rs) (Cuts p b)) (sym (counter_loss b)) (cut_sum named b (traffic rs));
            together =
                subst (WeightOf rs (Added p)) (sym counters_together)
                (record_total (Added p) (λ c. ltb (tells c) blocks_max) rs tells_added added_tells);
            past = λ b s. counter_loss b ∙ loss_past b s;
            fits = l;
          }

-- where pricing is done, with at most 60,000 records: 60000 * 65535 < 2 ^ 32
pub priced : (bs records : List ℕ) → price_fault bs records ≡ 0 → Priced (picture_of bs) (records_of records) (counters (picture_of bs) (records_of records))
priced bs records z =
    let r = priced_right bs records z in
    priced_by bs r.accepted r.flat (records_of records) r.endpoints
    (omega (
      arith,
      counters_together bs r.accepted r.flat (records_of records) r.endpoints,
      records_le (λ c. ltb (tells bs r.accepted r.flat c) blocks_max) weight_max (records_of records) (λ i s. record_small records i),
      records_length records,
      r.whole.most,
    ))
