-- A picture is read exactly when it keeps the layout, and the number of a refusal is that of the first rule that is broken, in the
-- order of document 01. Assumes nothing.
use mathlib.Core.Path.{◌≡◌}
use mathlib.Core.List.{List}
use Prim.Native.Nat.{ℕ}
use native.Mathlib.Omega.{arith}
use lib.Dec.{eqb, ltb, eqb→eq, ltb→lt, nltb→le}
use lib.ListN.{length}
use Rattle.lists.specs.Rules.{Judged, AllHold}
use Rattle.lists.proofs.Tests.{eq_T}
use Rattle.lists.proofs.Faults.{judge_test, judge_right, judge_none, judged_all, all_judged, Numbered}
use Rattle.picture.specs.declared.Edition.{Edition}
use Rattle.picture.specs.declared.Header.{Header}
use Rattle.picture.specs.Layout.{edition_of, edition_number, least_bytes, header_bytes, size_of}
use Rattle.picture.specs.Picture.{Picture, header_in, header_of, picture_of}
use Rattle.picture.specs.Faults.{sizes_right, counts_right, end_right, body_faults, faults_with, picture_fault}
use Rattle.picture.specs.Rules.{rules_with, rules}
use Rattle.picture.proofs.Starts.{slots_length, rounded}
use Rattle.picture.proofs.Kept.{Kept, holds_kept, kept_holds}
use Rattle.picture.proofs.Judging.{right_sizes, sizes_right_lem, right_counts, counts_right_lem, lists_judged, lists_numbered, right_ends, ends_right}

module _ (bs : List ℕ) where
  e : Edition
  e = edition_of bs

  h : Header
  h = header_of bs

  p : Picture
  p = picture_of bs

  pub picture_judged : Judged (rules bs) (picture_fault bs)
  unfolding rules rules_with picture_fault faults_with body_faults header_of header_in picture_of e h p
  picture_judged =
      judge_test _ _ (ltb (length bs) least_bytes) _ (λ z. absurd (omega arith)) (nltb→le (length bs) least_bytes) (λ t l. absurd (omega (arith, ltb→lt (length bs) least_bytes t)))
      (judge_right _ _ (eqb (edition_number bs) e.number) _ (λ z. absurd (omega arith)) (eqb→eq _ _) (eq_T _ _)
      (judge_test _ _ (ltb (length bs) (header_bytes e)) _ (λ z. absurd (omega arith)) (nltb→le (length bs) (header_bytes e)) (λ t l. absurd (omega (arith, ltb→lt (length bs) (header_bytes e) t)))
      (judge_right _ _ (sizes_right h) _ (λ z. absurd (omega arith)) (right_sizes h) (sizes_right_lem h)
      (judge_right _ _ (counts_right h) _ (λ z. absurd (omega arith)) (right_counts h) (counts_right_lem h)
      (judge_test _ _ (ltb (length bs) (size_of h)) _ (λ z. absurd (omega arith)) (nltb→le (length bs) (size_of h)) (λ t l. absurd (omega (arith, ltb→lt (length bs) (size_of h) t)))
      (lists_judged h p (slots_length h bs) _ _
      (judge_right _ _ (end_right h bs) _ (λ z. absurd (omega arith)) (right_ends h bs (rounded h).room) (ends_right h bs (rounded h).room) judge_none)))))))

  -- no number of the layout is 0
  pub numbered : Numbered (rules bs)
  unfolding rules rules_with
  numbered = (
    λ z. absurd (omega arith),
    (λ z. absurd (omega arith), (λ z. absurd (omega arith), (λ z. absurd (omega arith), (λ z. absurd (omega arith), (λ z. absurd (omega arith), lists_numbered (header_of bs) (picture_of bs) _ (λ z. absurd (omega arith), tt)))))),
  )

  -- accepted exactly where every rule of the layout holds
  pub accepted_holds : picture_fault bs ≡ 0 → AllHold (rules bs)
  accepted_holds = judged_all picture_judged numbered

  pub holds_accepted : AllHold (rules bs) → picture_fault bs ≡ 0
  holds_accepted = all_judged picture_judged

  -- the same with a name for each rule
  pub accepted_kept : picture_fault bs ≡ 0 → Kept bs
  accepted_kept z = holds_kept bs (accepted_holds z)

  pub kept_accepted : Kept bs → picture_fault bs ≡ 0
  kept_accepted k = holds_accepted (kept_holds k)
