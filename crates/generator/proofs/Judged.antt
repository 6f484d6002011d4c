-- The number that generating is answered with is that of the first rule that is broken. Assumes nothing.
use mathlib.Core.Path.{◌≡◌}
use mathlib.Core.Bool.{not, ◌&&◌}
use mathlib.Core.List.{List, [], ◌++◌}
use Prim.Native.Nat.{ℕ, ◌≤◌}
use native.Mathlib.Omega.{arith}
use borrow.Author.Tests.{eq-eqb}
use lib.Dec.{T, eqb, ltb, eqb→eq, ltb→lt, nltb→le}
use lib.ListN.{length}
use Rattle.lists.specs.Lists.{first}
use Rattle.lists.specs.Rules.{Rule, Judged, AllHold, more}
use Rattle.lists.proofs.Tests.{and_T, not_not_T}
use Rattle.lists.proofs.Faults.{judge_test, judge_right, judge_none, judged_all, all_judged, Numbered}
use Rattle.lists.proofs.Rules.{hold_one}
use Rattle.picture.specs.declared.Header.{Header}
use Rattle.picture.specs.Layout.{size_of}
use Rattle.picture.specs.Faults.{sizes_right, counts_right}
use Rattle.picture.specs.Rules.{Sizes, Counts}
use Rattle.picture.proofs.Judging.{right_sizes, sizes_right_lem, right_counts, counts_right_lem}
use Rattle.generator.specs.Rules.{asked_rules, generate_rules}
use Rattle.generator.specs.Faults.{asked_faults, generate_fault}

-- the rules of what is asked for, each by a name: a view of `asked_rules`
pub record Right (h : Header) : Type 0 where
  pub sizes : Sizes h
  pub counts : Counts h
  pub served : h.endpoints ≡ 0 → h.service_links ≡ 0

module _ (h : Header) where
  -- the third of them, as it is tested
  unserved : T (not (eqb h.endpoints 0 && not (eqb h.service_links 0))) → h.endpoints ≡ 0 → h.service_links ≡ 0
  unserved t z = eqb→eq _ 0 (not_not_T (eqb h.service_links 0) (rw (eq-eqb h.endpoints 0 z) at t))

  served_T : T (eqb h.endpoints 0 && not (eqb h.service_links 0)) → ¬ (h.endpoints ≡ 0 → h.service_links ≡ 0)
  served_T t f =
      let a = and_T (eqb h.endpoints 0) (not (eqb h.service_links 0)) t in
      rw (eq-eqb h.service_links 0 (f (eqb→eq _ 0 a.0))) at a.1

  asked_judged : (rs : List Rule) (xs : List ℕ) → Judged rs (first xs) → Judged (asked_rules h ++ rs) (first (asked_faults h ++ xs))
  unfolding asked_rules asked_faults
  asked_judged rs xs j =
      judge_right _ _ (sizes_right h) _ (λ z. absurd (omega arith)) (right_sizes h) (sizes_right_lem h)
      (judge_right _ _ (counts_right h) _ (λ z. absurd (omega arith)) (right_counts h) (counts_right_lem h)
      (judge_test _ _ (eqb h.endpoints 0 && not (eqb h.service_links 0)) _ (λ z. absurd (omega arith)) unserved served_T j))

  pub generate_judged : (buf : List ℕ) → Judged (generate_rules h buf) (generate_fault h buf)
  unfolding generate_rules generate_fault
  generate_judged buf =
      asked_judged _ _
      (judge_test _ _ (ltb (length buf) (size_of h)) [] (λ z. absurd (omega arith)) (nltb→le (length buf) (size_of h)) (λ t m. absurd (omega (arith, ltb→lt (length buf) (size_of h) t))) judge_none)

  -- no number is 0
  numbered : (rs : List Rule) → Numbered rs → Numbered (asked_rules h ++ rs)
  unfolding asked_rules
  numbered rs m = (λ z. absurd (omega arith), (λ z. absurd (omega arith), (λ z. absurd (omega arith), m)))

  hold_right : (rs : List Rule) → AllHold (asked_rules h ++ rs) → Right h × AllHold rs
  unfolding asked_rules
  hold_right rs (more a (more b (more c r))) = (record { sizes = a; counts = b; served = c }, r)

  -- ---- where the number is 0

  pub asked_right : first (asked_faults h) ≡ 0 → Right h
  unfolding asked_faults
  asked_right z = (hold_right [] (judged_all (asked_judged [] [] judge_none) (numbered [] tt) z)).0

  -- with the buffer: made exactly where every rule holds
  pub made_holds : (buf : List ℕ) → generate_fault h buf ≡ 0 → AllHold (generate_rules h buf)
  unfolding generate_rules
  made_holds buf = judged_all (generate_judged buf) (numbered _ (λ z. absurd (omega arith), tt))

  pub holds_made : (buf : List ℕ) → AllHold (generate_rules h buf) → generate_fault h buf ≡ 0
  holds_made buf = all_judged (generate_judged buf)

  pub made_right : (buf : List ℕ) → generate_fault h buf ≡ 0 → Right h × (size_of h ≤ length buf)
  unfolding generate_rules
  made_right buf z = let a = hold_right _ (made_holds buf z) in (a.0, hold_one a.1)
