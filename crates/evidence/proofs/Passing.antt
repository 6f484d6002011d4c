-- Evidence passes the check exactly where it keeps the rules, and the rules as a record. Assumes nothing.
use mathlib.Core.Path.{◌≡◌}
use mathlib.Core.List.{List}
use Prim.Native.Nat.{ℕ, ◌<◌}
use native.Mathlib.Omega.{arith}
use lib.ListN.{length, get_or}
use Rattle.lists.specs.Lists.{range}
use Rattle.lists.specs.Rules.{AllHold, none, more}
use Rattle.lists.proofs.Faults.{Numbered, judged_all, all_judged}
use Rattle.lists.proofs.Rules.{numbered_both, hold_one, hold_left, hold_right, hold_both, hold_each, each_hold}
use Rattle.lists.proofs.Ranges.{length_range}
use Rattle.lists.proofs.Picks.{range_at}
use Rattle.graph.specs.Kept.{ForestKept}
use Rattle.picture.specs.declared.Edition.{Edition}
use Rattle.picture.specs.Layout.{edition_of}
use Rattle.picture.specs.Picture.{Picture, picture_of}
use Rattle.picture.specs.Faults.{picture_fault}
use Rattle.picture.specs.Rules.{rules}
use Rattle.picture.proofs.Accepted.{picture_judged, numbered}
use Rattle.network.specs.Words.{slot_count, is_held, joins, ServedWeight}
use Rattle.network.specs.Tests.{candidates}
use Rattle.evidence.specs.Contents.{head_in, first_forest}
use Rattle.evidence.specs.Checks.{check_fault}
use Rattle.evidence.specs.Rules.{Form, SectionForest, SectionCost, Verdict, section_rules, evidence_rules_with, check_rules}
use Rattle.evidence.proofs.Judged.{sections, check_judged, sections_numbered}

-- ---- the check passes exactly where every rule holds

module _ (bs ev : List ℕ) where
  check_numbered : Numbered (check_rules bs ev)
  unfolding check_rules evidence_rules_with
  check_numbered =
      let p = picture_of bs in
      numbered_both (rules bs) _ (numbered bs)
      (λ z. absurd (omega arith), (λ z. absurd (omega arith), (λ z. absurd (omega arith), numbered_both (sections (edition_of bs) p ev) _ (sections_numbered (edition_of bs) p ev) (λ z. absurd (omega arith), tt))))

  pub check_holds : check_fault bs ev ≡ 0 → AllHold (check_rules bs ev)
  check_holds z = judged_all (check_judged bs ev) check_numbered z

  pub holds_check : AllHold (check_rules bs ev) → check_fault bs ev ≡ 0
  holds_check a = all_judged (check_judged bs ev) a

-- ---- the rules as a record

-- 14 and 15 of the section of block b
pub record Section (e : Edition) (p : Picture) (ev : List ℕ) (i b : ℕ) : Type 0 where
  pub forest : SectionForest e p ev i b
  pub numbers : SectionCost e p ev i b

-- evidence that passes for a picture
pub record Passes (bs ev : List ℕ) : Type 0 where
  pub accepted : picture_fault bs ≡ 0
  pub form : Form (edition_of bs) (picture_of bs) ev
  pub forest : ForestKept (joins (picture_of bs).links) (is_held (picture_of bs)) (slot_count (picture_of bs)) (first_forest (edition_of bs) (slot_count (picture_of bs)) ev)
  pub served : ServedWeight (picture_of bs) (is_held (picture_of bs)) (head_in ev).served
  pub sections : (i : ℕ) → i < length (candidates (picture_of bs)) → Section (edition_of bs) (picture_of bs) ev i (get_or (candidates (picture_of bs)) i 0)
  pub verdict : Verdict (picture_of bs) (head_in ev).verdict (head_in ev).block (head_in ev).loss

module _ (e : Edition) (p : Picture) (ev : List ℕ) where
  holds_section : AllHold (sections e p ev) → (i : ℕ) → i < length (candidates p) → Section e p ev i (get_or (candidates p) i 0)
  unfolding section_rules
  holds_section a i h =
      named (rw (range_at (length (candidates p)) i h) at (hold_each (section_rules e p ev) 0 (range 0 (length (candidates p))) a i (rw length_range h)))
    where
      named : AllHold (section_rules e p ev i) → Section e p ev i (get_or (candidates p) i 0)
      named (more f (more n none)) = record { forest = f; numbers = n }

  section_holds : ((i : ℕ) → i < length (candidates p) → Section e p ev i (get_or (candidates p) i 0)) → AllHold (sections e p ev)
  unfolding section_rules
  section_holds s =
      each_hold (section_rules e p ev) 0 (range 0 (length (candidates p)))
      (λ i h.
      let below : i < length (candidates p) = omega (arith, h, length_range 0 (length (candidates p))) in
      rw (range_at (length (candidates p)) i below) (more (s i below).forest (more (s i below).numbers none)))

module _ (bs ev : List ℕ) where
  evidence_passes : picture_fault bs ≡ 0 → AllHold (evidence_rules_with (edition_of bs) (picture_of bs) ev) → Passes bs ev
  unfolding evidence_rules_with
  evidence_passes z (more f (more t (more w r))) =
      let each = sections (edition_of bs) (picture_of bs) ev in
      record {
        accepted = z;
        form = f;
        forest = t;
        served = w;
        sections = holds_section (edition_of bs) (picture_of bs) ev (hold_left each _ r);
        verdict = hold_one (hold_right each _ r);
      }

  holds_passes : AllHold (check_rules bs ev) → Passes bs ev
  unfolding check_rules
  holds_passes a = evidence_passes (all_judged (picture_judged bs) (hold_left (rules bs) _ a)) (hold_right (rules bs) _ a)

  passes_holds : Passes bs ev → AllHold (check_rules bs ev)
  unfolding check_rules evidence_rules_with
  passes_holds k =
      hold_both (judged_all (picture_judged bs) (numbered bs) k.accepted)
      (more k.form (more k.forest (more k.served
      (hold_both (section_holds (edition_of bs) (picture_of bs) ev k.sections) (more k.verdict none)))))

  pub check_passes : check_fault bs ev ≡ 0 → Passes bs ev
  check_passes z = holds_passes (check_holds bs ev z)

  pub passes_check : Passes bs ev → check_fault bs ev ≡ 0
  passes_check k = holds_check bs ev (passes_holds k)
