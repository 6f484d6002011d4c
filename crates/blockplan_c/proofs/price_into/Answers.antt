-- `price_into` hands on what pricing answers, and its counters where there is room. Assumes nothing.
use mathlib.Core.Path.{refl, sym, ap, ◌∙◌}
use mathlib.Core.List.{List, ◌++◌}
use native.Mathlib.Omega.{arith}
use Prim.Native.Nat.{ℕ}
use lib.ListN.{length-take, drop}
use Rattle.std.proofs.lemmas.Result.{err_from_is_err_and}
use Rattle.lists.proofs.Faults.{first_one}
use Rattle.picture.specs.Refusals.{answer_numbers}
use Rattle.picture.proofs.Refusing.{refused_number}
use Rattle.picture.specs.Layout.{blocks_max}
use Rattle.write.proofs.Answering.{fills_faulty, fills_short, fills_made}
use Rattle.blockplan_c.specs.Answers.{price_into_fault}
use Rattle.blockplan_c.proofs.Prices.{into_priced}
use Rattle.blockplan_c.proofs.price_into.Goals as goal

pub returns-in_err-prices : goal.returns-in_err-prices
unfolding price_into_fault answer_numbers
returns-in_err-prices c =
    let p = err_from_is_err_and c.from_residual.result c.from_residual.ensures.1 in
    rw (p.1, p.2) (fills_faulty _ _ (refused_number _ _ c.in_err-prices.ensures.numbers ∙ first_one _))

pub returns-then-counters-lt-BLOCKS_MAX : goal.returns-then-counters-lt-BLOCKS_MAX
unfolding price_into_fault
returns-then-counters-lt-BLOCKS_MAX c =
    let d = into_priced _ _ c.args.counters.now _ c.in_ok-prices.ensures.numbers in
    fills_short _ (sym d.0 ∙ first_one _) c.if-counters-lt-BLOCKS_MAX.true

pub copy_from_slice-requires : goal.copy_from_slice-requires
copy_from_slice-requires c =
    let d = into_priced _ _ c.args.counters.now _ c.in_ok-prices.ensures.numbers in
    omega (arith, length-take 60 c.args.counters.now, d.2, c.if-counters-lt-BLOCKS_MAX.false)

pub returns : goal.returns
unfolding price_into_fault
returns c =
    let d = into_priced _ _ c.args.counters.now _ c.in_ok-prices.ensures.numbers in
    fills_made _ (sym d.0 ∙ first_one _) c.if-counters-lt-BLOCKS_MAX.false refl
    (ap (λ (l : List ℕ). l ++ drop blocks_max c.args.counters.now) (c.copy_from_slice.ensures.after ∙ sym d.1))
