-- The number that lists are answered with is that of the first rule that they break. Assumes nothing.
use mathlib.Core.Path.{◌≡◌, refl}
use mathlib.Core.List.{List, [], ◌++◌}
use Prim.Native.Nat.{ℕ, ◌^◌, ◌≤◌}
use native.Mathlib.Omega.{arith}
use lib.Dec.{eqb, ltb, eqb→eq, ltb→lt, lt→ltb, nltb→le}
use lib.ListN.{length}
use Rattle.lists.specs.Lists.{first}
use Rattle.lists.specs.Rules.{Rule, Judged, AllHold, more, none}
use Rattle.lists.proofs.Tests.{eq_T}
use Rattle.lists.proofs.Faults.{judge_test, judge_right, judge_none, judged_all, all_judged, Numbered}
use Rattle.lists.proofs.Rules.{hold_one}
use Rattle.picture.specs.declared.Header.{Header}
use Rattle.picture.specs.Picture.{Picture}
use Rattle.picture.specs.Faults.{sizes_right, counts_right, list_faults}
use Rattle.picture.specs.Rules.{list_rules}
use Rattle.picture.proofs.Judging.{right_sizes, sizes_right_lem, right_counts, counts_right_lem, lists_judged, lists_numbered}
use Rattle.picture.proofs.Kept.{holds_services, services_hold}
use Rattle.write.specs.Columns.{Lists, picture_from, header_for}
use Rattle.write.specs.Rules.{size_for, handed_rules, write_rules}
use Rattle.write.specs.Faults.{handed_faults, write_fault}
use Rattle.write.proofs.Right.{edition_in, header_from, Right}

module _ (l : Lists) where
  abbrev p : Picture
  p = picture_from l

  abbrev h : Header
  h = header_from l

  -- ---- the rules, judged in order

  handed_judged : (rs : List Rule) (xs : List ℕ) → Judged rs (first xs) → Judged (handed_rules l ++ rs) (first (handed_faults l ++ xs))
  unfolding handed_rules handed_faults header_for
  handed_judged rs xs j =
      judge_right _ _ (eqb l.edition (edition_in l).number) _ (λ z. absurd (omega arith)) (eqb→eq _ _) (eq_T _ _)
      (judge_right _ _ (eqb (length l.states) (length l.near)) _ (λ z. absurd (omega arith)) (eqb→eq _ _) (eq_T _ _)
      (judge_right _ _ (sizes_right h) _ (λ z. absurd (omega arith)) (right_sizes h) (sizes_right_lem h)
      (judge_right _ _ (ltb l.near_limit (2 ^ (edition_in l).location_bits)) _ (λ z. absurd (omega arith)) (ltb→lt _ _) (lt→ltb _ _)
      (judge_right _ _ (eqb (length l.weights) (length l.protected)) _ (λ z. absurd (omega arith)) (eqb→eq _ _) (eq_T _ _)
      (judge_right _ _ (counts_right h) _ (λ z. absurd (omega arith)) (right_counts h) (counts_right_lem h)
      (lists_judged h p refl rs xs j))))))

  pub write_judged : (buf : List ℕ) → Judged (write_rules l buf) (write_fault l buf)
  unfolding write_rules write_fault
  write_judged buf =
      handed_judged _ _
      (judge_test _ _ (ltb (length buf) (size_for l)) [] (λ z. absurd (omega arith)) (nltb→le (length buf) (size_for l)) (λ t m. absurd (omega (arith, ltb→lt (length buf) (size_for l) t))) judge_none)

  -- ---- the rules by name, before others

  hold_right : (rs : List Rule) → AllHold (handed_rules l ++ rs) → Right l × AllHold rs
  unfolding handed_rules list_rules
  hold_right rs (more n (more a (more b (more k (more c (more d (more e (more f r)))))))) =
      let s = holds_services _ _ p rs r in
      (record { edition = n; slots_even = a; sizes = b; near_limit_lem = k; endpoints_even = c; counts = d; states = e; links = f; service_links = s.0 }, s.1)

  right_hold : (rs : List Rule) → Right l → AllHold rs → AllHold (handed_rules l ++ rs)
  unfolding handed_rules list_rules
  right_hold rs r a =
      more r.edition (more r.slots_even (more r.sizes (more r.near_limit_lem (more r.endpoints_even (more r.counts (more r.states (more r.links
      (services_hold _ _ _ rs r.service_links a))))))))

  -- no number is 0
  numbered : (rs : List Rule) → Numbered rs → Numbered (handed_rules l ++ rs)
  unfolding handed_rules
  numbered rs m = (λ z. absurd (omega arith), (λ z. absurd (omega arith), (λ z. absurd (omega arith), (λ z. absurd (omega arith), (λ z. absurd (omega arith), (λ z. absurd (omega arith), lists_numbered h p rs m))))))

  -- ---- where the number is 0

  pub handed_right : first (handed_faults l) ≡ 0 → Right l
  unfolding handed_faults list_faults
  handed_right z = (hold_right [] (judged_all (handed_judged [] [] judge_none) (numbered [] tt) z)).0

  -- with the buffer: written exactly where every rule holds
  pub written_holds : (buf : List ℕ) → write_fault l buf ≡ 0 → AllHold (write_rules l buf)
  unfolding write_rules
  written_holds buf = judged_all (write_judged buf) (numbered _ (λ z. absurd (omega arith), tt))

  pub holds_written : (buf : List ℕ) → AllHold (write_rules l buf) → write_fault l buf ≡ 0
  holds_written buf = all_judged (write_judged buf)

  -- the same with a name for each rule
  pub write_right : (buf : List ℕ) → write_fault l buf ≡ 0 → Right l × (size_for l ≤ length buf)
  unfolding write_rules
  write_right buf z =
      let a = hold_right _ (written_holds buf z) in
      (a.0, hold_one a.1)

  pub right_write : (buf : List ℕ) → Right l → size_for l ≤ length buf → write_fault l buf ≡ 0
  unfolding write_rules
  right_write buf r m = holds_written buf (right_hold _ r (more m none))
