-- The rules of evidence as propositions, in the order of document 01. Assumes nothing.
use Rattle.std.specs.Prelude.{List, [], ◌∷◌, ◌++◌, ◌≡◌, ℕ, ◌≤◌, ◌<◌, length, get_or}
use Rattle.lists.specs.Lists.{range}
use Rattle.lists.specs.Rules.{Rule, each_rules}
use Rattle.graph.specs.Kept.{ForestKept}
use Rattle.picture.specs.declared.Edition.{Edition}
use Rattle.picture.specs.Layout.{edition_of}
use Rattle.picture.specs.Picture.{Picture, picture_of}
use Rattle.picture.specs.Rules.{rules}
use Rattle.network.specs.Words.{slot_count, is_held, held_without, joins, ServedWeight, Loss, CutCount, CutsProtected, Candidate, Admissible}
use Rattle.network.specs.Tests.{candidates}
use Rattle.evidence.specs.Layout.{evidence_bytes}
use Rattle.evidence.specs.Contents.{head_in, section_in, first_forest, section_forest}

-- 13: "evidence length or edition wrong, C not the candidate count, a section's block not the next candidate, verdict or mark over 1"
pub record Form (e : Edition) (p : Picture) (ev : List ℕ) : Type 0 where
  pub size : length ev ≡ evidence_bytes e (slot_count p) (length (candidates p))
  pub edition : (head_in ev).edition ≡ e.number
  pub verdict : (head_in ev).verdict ≤ 1
  pub count : (head_in ev).count ≡ length (candidates p)
  pub blocks : (i : ℕ) → i < length (candidates p) → (section_in e (slot_count p) ev i).block ≡ get_or (candidates p) i 0
  pub marks : (i : ℕ) → i < length (candidates p) → (section_in e (slot_count p) ev i).mark ≤ 1

-- 14 of the section of block b: its forest keeps the rules with that block evicted
abbrev pub SectionForest : Edition → Picture → List ℕ → ℕ → ℕ → Type 0
SectionForest e p ev i b = ForestKept (joins p.links) (held_without p b) (slot_count p) (section_forest e (slot_count p) ev i)

-- 15 of the section of block b: its loss and mark are those by chains
pub record SectionCost (e : Edition) (p : Picture) (ev : List ℕ) (i b : ℕ) : Type 0 where
  pub loss : Loss p b (section_in e (slot_count p) ev i).loss
  pub marked : (section_in e (slot_count p) ev i).mark ≡ 1 → CutsProtected p b
  pub unmarked : CutsProtected p b → (section_in e (slot_count p) ev i).mark ≡ 1

-- 16 where a block is named: a candidate that cuts no protected endpoint, with its loss, and none such loses less; and of those that lose as
-- much none cuts fewer endpoints (02, C-12)
pub record LeastAdmissible (p : Picture) (block loss : ℕ) : Type 0 where
  pub candidate : Candidate p block
  pub admissible : Admissible p block
  pub stated : Loss p block loss
  pub least : (b : ℕ) → Candidate p b → Admissible p b → (w : ℕ) → Loss p b w → loss ≤ w
  pub cuts : ℕ
  pub counted : CutCount p block cuts
  pub fewest : (b : ℕ) → Candidate p b → Admissible p b → Loss p b loss → (k : ℕ) → CutCount p b k → cuts ≤ k

-- 16: verdict 1 with such a block, or verdict 0 with block and loss 0 where every candidate cuts a protected endpoint
pub data Verdict (p : Picture) : ℕ → ℕ → ℕ → Type 0 where
  chosen : {block loss : ℕ} → LeastAdmissible p block loss → Verdict p 1 block loss
  none : ((b : ℕ) → Candidate p b → CutsProtected p b) → Verdict p 0 0 0

-- ---- the rules with their numbers, in the order in which they are judged: "picture, 13, first forest 14, served weight 15, then per
-- candidate 14 and 15, then 16"

module _ (e : Edition) (p : Picture) (ev : List ℕ) where
  -- those of section i
  unfoldable pub section_rules : ℕ → List Rule
  section_rules i =
      record { number = 14; holds = SectionForest e p ev i (get_or (candidates p) i 0) }
      ∷ record { number = 15; holds = SectionCost e p ev i (get_or (candidates p) i 0) }
      ∷ []

  -- those of the whole evidence
  unfoldable pub evidence_rules_with : List Rule
  evidence_rules_with =
      record { number = 13; holds = Form e p ev }
      ∷ record { number = 14; holds = ForestKept (joins p.links) (is_held p) (slot_count p) (first_forest e (slot_count p) ev) }
      ∷ record { number = 15; holds = ServedWeight p (is_held p) (head_in ev).served }
      ∷ (each_rules section_rules (range 0 (length (candidates p))) ++ (record { number = 16; holds = Verdict p (head_in ev).verdict (head_in ev).block (head_in ev).loss } ∷ []))

-- the picture's, and then those of the evidence
unfoldable pub check_rules : List ℕ → List ℕ → List Rule
check_rules bs ev = rules bs ++ evidence_rules_with (edition_of bs) (picture_of bs) ev
