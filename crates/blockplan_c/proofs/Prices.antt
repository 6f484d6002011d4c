-- Price, whose counters go into a buffer: what its answer is to C, and that its number is that of the first rule that is broken. Assumes nothing.
use mathlib.Core.Path.{◌≡◌, refl, sym, ap, ◌∙◌}
use mathlib.Core.List.{List, []}
use Prim.Native.Nat.{ℕ}
use native.Mathlib.Omega.{arith}
use lib.Dec.{ltb, ltb→lt, nltb→le}
use lib.ListN.{length}
use Rattle.std.specs.Prelude.{Result, Ok, Err}
use Rattle.std.specs.Result.{result_and}
use Rattle.lists.specs.Lists.{outcome}
use Rattle.lists.specs.Rules.{Judged}
use Rattle.lists.proofs.Answers.{outcome_zero}
use Rattle.lists.proofs.Faults.{judge_test, judge_none}
use Rattle.lists.proofs.Rules.{judged_then}
use Rattle.picture.specs.declared.refusals.Refusal.{Refusal}
use Rattle.picture.specs.Refusals.{answer_numbers}
use Rattle.picture.proofs.Refusing.{refused_number, numbers_ok, numbers_err}
use Rattle.picture.specs.Layout.{blocks_max}
use Rattle.picture.specs.Picture.{picture_of}
use Rattle.price.specs.Traffic.{records_of}
use Rattle.price.specs.Faults.{price_fault}
use Rattle.price.specs.Answers.{counters, pricing_numbers}
use Rattle.price.proofs.Judged.{price_judged, price_numbered}
use Rattle.price.proofs.Pricing.{priced}
use Rattle.blockplan_c.specs.Answers.{to_c, price_into_rules, price_into_fault, PricesInto}

module _ (bs records buf : List ℕ) where
  pub into_judged : Judged (price_into_rules bs records buf) (price_into_fault bs records buf)
  unfolding price_into_rules price_into_fault
  into_judged =
      judged_then _ (price_judged bs records) (price_numbered bs records)
      (λ z.
      judge_test _ _ (ltb (length buf) blocks_max) [] (λ e. absurd (omega arith)) (nltb→le (length buf) blocks_max)
      (λ t m. absurd (omega (arith, ltb→lt (length buf) blocks_max t))) judge_none)

  -- what was priced are the counters, sixty of them, and no fault was found before
  pub into_priced : (cs : List ℕ) → pricing_numbers (Ok cs) ≡ outcome (price_fault bs records) (counters (picture_of bs) (records_of records))
      → (price_fault bs records ≡ 0) × (counters (picture_of bs) (records_of records) ≡ cs) × (length cs ≡ blocks_max)
  unfolding answer_numbers
  into_priced cs t =
      let d = outcome_zero (price_fault bs records) (sym t) in
      (d.0, d.1, ap length (sym d.1) ∙ (priced bs records d.0).many)

-- to C the number of counters is not told
pub into_told : (bs records buf : List ℕ) (r : Result ℕ Refusal) {out : List ℕ} → PricesInto bs records buf r out
    → to_c (answer_numbers {A = Unit {0}} (λ _. []) (result_and r (Ok (tt {0})))) ≡ to_c (outcome (price_into_fault bs records buf) [])
unfolding answer_numbers
into_told bs records buf (Ok n) f =
    ap to_c (numbers_ok {A = Unit {0}} (λ _. []) {v = tt} {w = tt} (sym (outcome_zero (price_into_fault bs records buf) (sym f.numbers)).0) refl)
into_told bs records buf (Err e) f = ap to_c (numbers_err {A = Unit {0}} (λ _. []) tt e (refused_number _ e f.numbers))
