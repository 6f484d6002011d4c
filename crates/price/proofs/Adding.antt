-- The counters, record by record. Assumes nothing.
use mathlib.Core.Path.{◌≡◌, sym, ap, ◌∙◌}
use mathlib.Core.List.{List, [], ◌∷◌, ◌++◌, map}
use Prim.Native.Nat.{ℕ, ◌+◌, ◌*◌, ◌≤◌, ◌<◌}
use native.Mathlib.Omega.{arith}
use native.Mathlib.Decide.{ℕ_discrete}
use native.Mathlib.Nat.{add-zero}
use native.Mathlib.Numerals.{add-one}
use borrow.Author.Tests.{eq-eqb, ne_eqb}
use lib.Dec.{eqb}
use lib.ListN.{length, get_or, set, take, replicate, length-set, length-replicate}
use lib.Seq.{get_or-set_same, get_or-set_other, take-suc, take_all}
use Rattle.lists.specs.Lists.{range, on, sum}
use Rattle.lists.proofs.Picks.{copies_at}
use Rattle.lists.proofs.Ranges.{range_made}
use Rattle.picture.specs.Layout.{blocks_max, weight_max}
use Rattle.price.specs.declared.Record.{Record}
use Rattle.price.specs.Traffic.{no_record}
use Rattle.price.specs.Inner.{no_feeder, fed}

-- the counters have the weights of the first i records, so none has more than as many of the largest
pub record Summing (feeders : List ℕ) (rs : List Record) (counters : List ℕ) (i : ℕ) : Type 0 where
  pub many : length counters ≡ blocks_max
  pub sums : (b : ℕ) → b < blocks_max → get_or counters b 0 ≡ fed feeders (take i rs) b
  pub small : (b : ℕ) → get_or counters b 0 ≤ i * weight_max

module _ (feeders : List ℕ) (rs : List Record) where
  -- what a record is added to
  abbrev pub feeder : Record → ℕ
  feeder r = get_or feeders r.endpoint no_feeder

  -- what two lists of records give a block
  fed_both : (xs ys : List Record) (b : ℕ) → fed feeders (xs ++ ys) b ≡ fed feeders xs b + fed feeders ys b
  unfolding fed sum
  fed_both [] ys b = omega arith
  fed_both (x ∷ xs) ys b = omega (arith, fed_both xs ys b)

  -- one record more
  fed_more : (i b : ℕ) {r : Record} → i < length rs → r ≡ get_or rs i no_record → fed feeders (take (i + 1) rs) b ≡ fed feeders (take i rs) b + on (eqb (feeder r) b) r.weight
  unfolding fed sum
  fed_more i b {r} h e =
      rw (add-one, take-suc rs i no_record h, ← e) (fed_both (take i rs) (r ∷ []) b ∙ omega arith)

  pub summing_begun : Summing feeders rs (replicate blocks_max 0) 0
  unfolding fed sum
  summing_begun = record { many = length-replicate {A = ℕ} blocks_max 0; sums = λ b h. copies_at {A = ℕ} 0 blocks_max b; small = λ b. omega (arith, copies_at {A = ℕ} 0 blocks_max b) }

  module _ (counters : List ℕ) (i : ℕ) {r : Record} (s : Summing feeders rs counters i) (h : i < length rs) (e : r ≡ get_or rs i no_record) where
    -- which a block alone feeds, or none
    pub summing_hit : {x : ℕ} → feeder r < blocks_max → r.weight ≤ weight_max → x ≡ get_or counters (feeder r) 0 + r.weight → Summing feeders rs (set counters (feeder r) x) (i + 1)
    unfolding on
    summing_hit {x} m w q = record { many = length-set counters (feeder r) x ∙ s.many; sums = λ b l. sums b l (ℕ_discrete b (feeder r)); small = λ b. small b (ℕ_discrete b (feeder r)) }
      where
        sums : (b : ℕ) → b < blocks_max → Dec (b ≡ feeder r) → get_or (set counters (feeder r) x) b 0 ≡ fed feeders (take (i + 1) rs) b
        sums b l (yes z) =
            rw (fed_more i b h e, eq-eqb (feeder r) b (sym z), z)
            (get_or-set_same counters (feeder r) x 0 (omega (arith, s.many)) ∙ q ∙ ap (λ (k : ℕ). k + r.weight) (s.sums (feeder r) m))
        sums b l (no n) = rw (fed_more i b h e, ne_eqb (feeder r) b (λ z. n (sym z))) (get_or-set_other counters (feeder r) b x 0 n ∙ s.sums b l ∙ sym (add-zero _))

        small : (b : ℕ) → Dec (b ≡ feeder r) → get_or (set counters (feeder r) x) b 0 ≤ (i + 1) * weight_max
        small b (yes z) = rw (z, get_or-set_same counters (feeder r) x 0 (omega (arith, s.many))) (omega (arith, q, s.small (feeder r), w))
        small b (no n) = rw (get_or-set_other counters (feeder r) b x 0 n) (omega (arith, s.small b))

    pub summing_miss : blocks_max ≤ feeder r → Summing feeders rs counters (i + 1)
    unfolding on
    summing_miss m =
        record {
          many = s.many;
          sums = λ b l. rw (fed_more i b h e, ne_eqb (feeder r) b (λ z. absurd (omega arith))) (s.sums b l ∙ omega arith);
          small = λ b. omega (arith, s.small b);
        }

  -- every record was looked at
  pub summing_ended : {counters : List ℕ} {i : ℕ} → length rs ≤ i → Summing feeders rs counters i → counters ≡ map (fed feeders rs) (range 0 blocks_max)
  summing_ended {counters} {i} h s =
      sym (rw s.many at (range_made 0 (fed feeders rs) counters (λ b l. sym (s.sums b (omega (arith, s.many)) ∙ ap (λ (xs : List Record). fed feeders xs b) (take_all i rs h)))))
