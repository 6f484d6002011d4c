-- The parts of evidence: what is held in them, what they are to state, and their faults. Assumes nothing.
use mathlib.Core.Path.{◌≡◌, sym, ◌∙◌}
use mathlib.Core.Bool.{Bool, true, false, not}
use mathlib.Core.List.{List, [], ◌∷◌}
use Prim.Native.Nat.{ℕ, zero, suc, ◌-◌, ◌≤◌, zero-le, suc-le-suc}
use native.Mathlib.Numerals.{sub-one}
use lib.Dec.{eqb-suc-zero}
use lib.ListN.{length, get_or}
use Rattle.lists.specs.Lists.{on, first}
use Rattle.lists.proofs.Tests.{is_false}
use Rattle.lists.proofs.Tests.{is_true}
use Rattle.graph.specs.declared.Node.{Node}
use Rattle.graph.specs.Held.{held_in}
use Rattle.rows.specs.Ranges.{without}
use Rattle.graph.specs.Kept.{ForestKept}
use Rattle.picture.specs.declared.Edition.{Edition}
use Rattle.picture.specs.declared.Header.{Header}
use Rattle.picture.specs.Layout.{edition_of}
use Rattle.picture.specs.Picture.{Picture, picture_of}
use Rattle.picture.specs.Inner.{Read}
use Rattle.picture.proofs.Facts.{read_edition}
use Rattle.network.specs.Words.{slot_count, is_held, held_without, joins}
use Rattle.network.specs.Tests.{weighed, served_weight, candidates}
use Rattle.network.specs.Rows.{SlotRowsOf}
use Rattle.network.proofs.Weights.{weighed_block}
use Rattle.network.proofs.Blocks.{read_slots}
use Rattle.weigh.proofs.Serving.{now_held, left_held}
use Rattle.evidence.specs.declared.Stated.{Stated}
use Rattle.evidence.specs.Layout.{forest_at}
use Rattle.evidence.specs.Canonical.{stated_of}
use Rattle.evidence.specs.Contents.{section_in, forest_in, first_forest, section_forest}
use Rattle.evidence.specs.Checks.{forest_right, section_fault}
use Rattle.evidence.specs.Rules.{Form}
use Rattle.evidence.proofs.Forests.{right_kept, kept_right}
use Rattle.evidence.proofs.Weighings.{weighing_at}
use Rattle.checker.specs.Forests.{evicted_in, stated_test, part_fault}

-- the block that section i evicts
abbrev pub block_at : Picture → ℕ → ℕ
block_at p i = get_or (candidates p) i 0

-- what is held in part k, and what the part is to state
unfoldable pub held_at : Picture → ℕ → ℕ → Bool
held_at p zero = is_held p
held_at p (suc i) = held_without p (block_at p i)

unfoldable pub stated_at : Picture → ℕ → Stated
stated_at p zero = record { block = 0; loss = served_weight p; mark = 0 }
stated_at p (suc i) = stated_of (weighed p (block_at p i))

module _ (bs ev : List ℕ) {h : Header} (r : Read bs h) where
  abbrev p : Picture
  p = picture_of bs

  abbrev e : Edition
  e = h.edition

  abbrev n : ℕ
  n = h.slots

  abbrev own : h.edition ≡ edition_of bs
  own = read_edition bs h r

  abbrev many : slot_count (picture_of bs) ≡ h.slots
  many = read_slots bs h r

  -- the forest of part k
  abbrev pub forest_of : ℕ → List Node
  forest_of k = forest_in e n ev (forest_at e n k)

  -- whether it states what it is to state
  abbrev pub stated_right : ℕ → Bool
  stated_right k = stated_test e n ev k (stated_at p k).loss (stated_at p k).mark

  pub part_fault_lem : (k : ℕ) → k ≤ length (candidates p)
      → part_fault bs ev k ≡ first (on (not (forest_right p (held_at p k) (forest_of k))) 14 ∷ on (not (stated_right k)) 15 ∷ [])
  unfolding part_fault held_at stated_at stated_test section_fault first_forest section_forest
  part_fault_lem zero l = rw (own, many)
  part_fault_lem (suc i) l = rw (own, many, weighing_at p i l, weighed_block p (block_at p i), eqb-suc-zero i, sub-one (suc i))

  module _ (k : ℕ) (l : k ≤ length (candidates p)) where
    -- the forest breaks a rule
    pub part_broken : ¬ ForestKept (joins p.links) (held_at p k) n (forest_of k) → 14 ≡ part_fault bs ev k
    unfolding on first
    part_broken bad = sym (part_fault_lem k l ∙ rw (is_false (forest_right p (held_at p k) (forest_of k)) (λ t. bad (rw many at (right_kept p _ _ t)))))

    -- it keeps them, and what is stated is wrong or right
    module _ (kept : ForestKept (joins p.links) (held_at p k) n (forest_of k)) where
      right : forest_right p (held_at p k) (forest_of k) ≡ true
      right = is_true _ (kept_right p (held_at p k) (forest_of k) (rw many kept))

      pub part_wrong : stated_right k ≡ false → 15 ≡ part_fault bs ev k
      unfolding on first
      part_wrong s = sym (part_fault_lem k l ∙ rw (right, s))

      pub part_right : stated_right k ≡ true → part_fault bs ev k ≡ 0
      unfolding on first
      part_right s = part_fault_lem k l ∙ rw (right, s)

  -- ---- what the code finds of part k

  module _ (form : Form e p ev) where
    pub formed_block : (i : ℕ) → suc i ≤ length (candidates p) → (section_in e n ev i).block ≡ block_at p i
    formed_block i l = rw (← many) (form.blocks i l)

    pub held_found : {row near : List ℕ} → SlotRowsOf p row near → (k : ℕ) → k ≤ length (candidates p)
        → (v : ℕ) → without (evicted_in p.block_size (section_in e n ev (k - 1)).block k) (held_in row) v ≡ held_at p k v
    unfolding held_at evicted_in
    held_found s zero l v = now_held s.held v
    held_found s (suc i) l v = rw (eqb-suc-zero i, sub-one (suc i), formed_block i l) (left_held s.held (block_at p i) v)

  pub stated_found : (k : ℕ) {w m : ℕ} → w ≡ (stated_at p k).loss → (1 ≤ k → m ≡ (stated_at p k).mark) → stated_test e n ev k w m ≡ stated_right k
  unfolding stated_test
  stated_found zero w m = rw w
  stated_found (suc i) w m = rw (w, m (suc-le-suc zero-le))
