-- The number that a check answers is that of the first rule that is broken, in the order of document 01: picture, 13, first forest 14,
-- served weight 15, then 14 and 15 of each section, then 16. Assumes nothing.
use mathlib.Core.Path.{sym, subst}
use mathlib.Core.Bool.{not}
use mathlib.Core.List.{List, [], ◌∷◌, map}
use Prim.Native.Nat.{ℕ, ◌≤◌, ◌<◌}
use native.Mathlib.Omega.{arith}
use lib.Dec.{eqb, eqb→eq}
use lib.ListN.{length, get_or}
use Rattle.lists.specs.Lists.{range, on, first}
use Rattle.lists.specs.Rules.{Rule, each_rules, Judged}
use Rattle.lists.proofs.Tests.{eq_T}
use Rattle.lists.proofs.Faults.{judge_none, Numbered}
use Rattle.lists.proofs.Rules.{right_then, judged_then, each_judged, each_numbered}
use Rattle.lists.proofs.Ranges.{length_range}
use Rattle.lists.proofs.Picks.{range_at}
use Rattle.picture.specs.declared.Edition.{Edition}
use Rattle.picture.specs.Layout.{edition_of}
use Rattle.picture.specs.Picture.{Picture, picture_of}
use Rattle.picture.proofs.Accepted.{picture_judged, numbered}
use Rattle.network.specs.Words.{slot_count, is_held, Named}
use Rattle.network.specs.declared.Cost.{Cost}
use Rattle.network.specs.Tests.{weighed, served_weight, candidates}
use Rattle.network.proofs.Named.{accepted_named}
use Rattle.evidence.specs.Canonical.{weighings}
use Rattle.evidence.specs.Contents.{head_in, section_in, first_forest}
use Rattle.evidence.specs.Checks.{forest_right, form_right, section_fault, verdict_right, check_fault}
use Rattle.evidence.specs.Rules.{section_rules, evidence_rules_with, check_rules}
use Rattle.evidence.proofs.Forests.{right_kept, kept_right}
use Rattle.network.proofs.Candidates.{candidate_below}
use Rattle.evidence.proofs.Weighings.{weighings_length, weighing_at}
use Rattle.evidence.proofs.Judging.{forest_test, numbers_test, test_numbers, numbers_test_lem, right_form, form_right_lem, right_served, served_right, right_numbers, numbers_right, right_verdict, verdict_right_lem}

-- ---- the sections

module _ (e : Edition) (p : Picture) (ev : List ℕ) where
  abbrev pub sections : List Rule
  sections = each_rules (section_rules e p ev) (range 0 (length (candidates p)))

  section_numbered : (i : ℕ) → Numbered (section_rules e p ev i)
  unfolding section_rules
  section_numbered i = (λ z. absurd (omega arith), (λ z. absurd (omega arith), tt))

  pub sections_numbered : Numbered sections
  sections_numbered = each_numbered (section_rules e p ev) section_numbered (range 0 (length (candidates p)))

module _ {p : Picture} (n : Named p) (e : Edition) (ev : List ℕ) (marks : (i : ℕ) → i < length (candidates p) → (section_in e (slot_count p) ev i).mark ≤ 1) where
  section_judged : (i : ℕ) → i < length (candidates p) → Judged (section_rules e p ev i) (section_fault e p ev (weighings p) i)
  unfolding section_rules section_fault forest_test numbers_test weighed
  section_judged i h =
      let b = get_or (candidates p) i 0 in
      let w = weighed p b in
      subst (λ (x : Cost). Judged (section_rules e p ev i) (first (on (not (forest_test e p ev i x)) 14 ∷ on (not (numbers_test e p ev i x)) 15 ∷ []))) (sym (weighing_at p i h))
      (right_then _ _ (forest_test e p ev i w) _ (λ z. absurd (omega arith)) (right_kept p _ _) (kept_right p _ _)
      (λ _. right_then _ _ (numbers_test e p ev i w) [] (λ z. absurd (omega arith))
      (λ t. let s = test_numbers e p ev i w t in right_numbers n e ev i b s.0 s.1)
      (λ r. let s = numbers_right n e ev i b (marks i h) r in numbers_test_lem e p ev i w s.0 s.1)
      (λ _. judge_none)))

  sections_judged : Judged (sections e p ev) (first (map (section_fault e p ev (weighings p)) (range 0 (length (weighings p)))))
  sections_judged =
      rw weighings_length
      (each_judged (section_rules e p ev) 0 (section_numbered e p ev) (section_fault e p ev (weighings p)) (range 0 (length (candidates p)))
      (λ i h. let below : i < length (candidates p) = omega (arith, h, length_range 0 (length (candidates p))) in rw (range_at (length (candidates p)) i below) (section_judged i below)))

-- ---- the check

pub check_judged : (bs ev : List ℕ) → Judged (check_rules bs ev) (check_fault bs ev)
unfolding check_rules evidence_rules_with check_fault
check_judged bs ev =
    judged_then _ (picture_judged bs) (numbered bs)
    (λ z.
    let e = edition_of bs in
    let p = picture_of bs in
    let n = accepted_named bs z in
    right_then _ _ (form_right e p ev) _ (λ z. absurd (omega arith)) (right_form e p ev) (form_right_lem e p ev)
    (λ f. right_then _ _ (forest_right p (is_held p) (first_forest e (slot_count p) ev)) _ (λ z. absurd (omega arith)) (right_kept p _ _) (kept_right p _ _)
    (λ _. right_then _ _ (eqb (head_in ev).served (served_weight p)) _ (λ z. absurd (omega arith)) (λ t. right_served n _ (eqb→eq _ _ t)) (λ s. eq_T _ _ (served_right n _ s))
    (λ _. judged_then _ (sections_judged n e ev f.marks) (sections_numbered e p ev)
    (λ _. right_then _ _ (verdict_right ev (weighings p)) [] (λ z. absurd (omega arith)) (right_verdict n (candidate_below bs z) ev) (verdict_right_lem n (candidate_below bs z) ev) (λ _. judge_none))))))
