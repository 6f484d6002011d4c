-- What pricing answers, by the number of the first fault. Assumes nothing.
use mathlib.Core.Path.{◌≡◌, refl, sym, ◌∙◌}
use mathlib.Core.List.{List}
use Prim.Native.Nat.{ℕ}
use Rattle.std.specs.Prelude.{Result, Ok, Err}
use Rattle.lists.specs.Lists.{on, outcome}
use Rattle.lists.proofs.Tests.{is_true, is_false}
use Rattle.lists.proofs.Faults.{first_one}
use Rattle.picture.specs.declared.refusals.Refusal.{Refusal}
use Rattle.picture.specs.declared.refusals.Refusal.TheVariants.{Records}
use Rattle.picture.specs.Refusals.{refusal_number}
use Rattle.picture.specs.Picture.{picture_of}
use Rattle.picture.specs.Faults.{picture_fault}
use Rattle.picture.proofs.Refusing.{refused_first, passed_first, answered_ok, answered_err, numbers_ok, numbers_err}
use Rattle.network.specs.Words.{endpoint_count}
use Rattle.price.specs.Traffic.{records_of}
use Rattle.price.specs.Rules.{Whole}
use Rattle.price.specs.Faults.{flat_fault, length_fault, records_fault, price_fault}
use Rattle.price.specs.Answers.{counters, pricing, pricing_numbers}
use Rattle.price.specs.Inner.{EndpointsTell, Adding}
use Rattle.price.proofs.Pricing.{fed_counters}
use Rattle.price.proofs.Judged.{is_whole, right_whole, whole_right, right_flat, right_endpoints}

module _ (bs records : List ℕ) where
  -- the picture has a fault
  pub price_faulty : (e : Refusal) → refusal_number e ≡ picture_fault bs → refusal_number e ≡ price_fault bs records
  unfolding price_fault
  price_faulty e q = refused_first e _ q

  module _ (z : picture_fault bs ≡ 0) where
    -- a link starts elsewhere
    pub price_strays : (e : Refusal) → refusal_number e ≡ flat_fault (picture_of bs) → refusal_number e ≡ price_fault bs records
    unfolding price_fault
    price_strays e q = passed_first _ (sym z) (refused_first e _ q)

    module _ (f : 0 ≡ flat_fault (picture_of bs)) where
      -- the records are not whole, or too many
      pub price_odd : ¬ Whole records → refusal_number Records ≡ price_fault bs records
      unfolding price_fault length_fault on
      price_odd n = passed_first _ (sym z) (passed_first _ f (refused_first Records _ (rw (is_false (is_whole records) (λ t. n (right_whole records t))) refl)))

      -- they are: what is told of their endpoints
      pub price_read : Whole records → {k : ℕ} → k ≡ records_fault (endpoint_count (picture_of bs)) (records_of records) → k ≡ price_fault bs records
      unfolding price_fault length_fault on
      price_read w q =
          passed_first _ (sym z) (passed_first _ f (passed_first _ (rw (is_true (is_whole records) (whole_right records w)) refl) (q ∙ first_one _)))

      -- what is added up is answered
      pub price_added : Whole records → {feeders : List ℕ} → EndpointsTell (picture_of bs) feeders → (r : Result (List ℕ) Refusal)
          → Adding feeders (endpoint_count (picture_of bs)) (records_of records) r
          → (r ≡ pricing bs records) × (pricing_numbers r ≡ outcome (price_fault bs records) (counters (picture_of bs) (records_of records)))
      unfolding pricing
      price_added w t (Ok cs) a =
          let k = price_read w a.0 in
          let e = a.1 ∙ fed_counters bs z (right_flat (picture_of bs) (sym f)) (records_of records) (right_endpoints _ _ (sym a.0)) t in
          (answered_ok k e, numbers_ok (λ cs. cs) k e)
      price_added w t (Err e) q = (answered_err _ e (price_read w q), numbers_err (λ cs. cs) _ e (price_read w q))
