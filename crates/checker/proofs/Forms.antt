-- The form of evidence: the code finds what the test says, which is what the rule says. Assumes nothing.
use mathlib.Core.Path.{◌≡◌, refl, ◌∙◌}
use mathlib.Core.Bool.{Bool, true, false, ◌&&◌, cond, and_comm}
use mathlib.Core.List.{List, [], ◌∷◌, ◌++◌}
use Prim.Native.Nat.{ℕ, zero, suc, ◌+◌, ◌-◌, ◌≤◌, ◌<◌}
use native.Mathlib.Omega.{arith}
use native.Mathlib.Nat.{zero-add, add-zero, add-suc}
use native.Mathlib.Numerals.{add-one}
use Rattle.std.specs.Prelude.{Option, Some, None}
use Rattle.std.specs.Bool.{then_some}
use lib.ListN.{length, get_or, length-append, get_or-append}
use lib.Seq.{get_or-append_seam}
use Rattle.lists.specs.Lists.{range, all, filter}
use Rattle.lists.proofs.Alls.{all_more, all_same}
use Rattle.lists.proofs.Growing.{filter_hit, filter_miss}
use Rattle.picture.specs.declared.Edition.{Edition}
use Rattle.picture.specs.Picture.{Picture}
use Rattle.network.specs.Words.{slot_count}
use Rattle.network.specs.Tests.{candidates}
use Rattle.network.specs.Rows.{block_marked, blocks_marked}
use Rattle.evidence.specs.Checks.{head_right, section_right, sections_right, form_right}
use Rattle.checker.specs.Form.{form_of}

-- what is found for a picture's candidates is what the check asks of its form
module _ (e : Edition) (p : Picture) (ev : List ℕ) where
  -- the number of the candidates where the form is right
  told : Bool → Option ℕ
  told right = cond right (Some (length (candidates p))) None

  same : form_of e (slot_count p) ev (candidates p) ≡ told (form_right e p ev)
  unfolding form_of form_right told
  same = rw (and_comm (sections_right e (slot_count p) ev (candidates p)) _)

  pub form_found : (count : ℕ) → Some count ≡ form_of e (slot_count p) ev (candidates p) → (form_right e p ev ≡ true) × (count ≡ length (candidates p))
  unfolding told
  form_found count f = go (form_right e p ev) (f ∙ same)
    where
      go : (right : Bool) → Some count ≡ told right → (right ≡ true) × (count ≡ length (candidates p))
      go true e = (refl, cc)
      go false e = absurd (cc)

  pub form_missed : None ≡ form_of e (slot_count p) ev (candidates p) → form_right e p ev ≡ false
  unfolding told
  form_missed f = go (form_right e p ev) (f ∙ same)
    where
      go : (right : Bool) → None ≡ told right → right ≡ false
      go true e = absurd (cc)
      go false e = refl

-- ---- the loop over the blocks

-- the blocks below b are looked at, and the sections are right for the candidates among them
pub record Forming (e : Edition) (n : ℕ) (ev near : List ℕ) (size count b : ℕ) : Type 0 where
  pub few : count ≤ b
  pub counted : count ≡ length (blocks_marked near size b)
  pub right : sections_right e n ev (blocks_marked near size b) ≡ true

module _ (e : Edition) (n : ℕ) (ev near : List ℕ) (size : ℕ) where
  pub forming_begun : Forming e n ev near size 0 0
  unfolding blocks_marked sections_right range filter all
  forming_begun = record { few = omega arith; counted = refl; right = refl }

  sections_more : (cs : List ℕ) (b : ℕ) → sections_right e n ev (cs ++ (b ∷ [])) ≡ (sections_right e n ev cs && section_right e n ev (length cs) b)
  unfolding sections_right
  sections_more cs b =
      let f : ℕ → Bool = λ i. section_right e n ev i (get_or (cs ++ (b ∷ [])) i 0) in
      let same = all_same f (λ i. section_right e n ev i (get_or cs i 0)) 0 (length cs) (λ u l h. rw (get_or-append cs (b ∷ []) 0 u (omega arith))) in
      rw (length-append cs (b ∷ []), add-one (length cs), all_more f 0 (length cs), same, zero-add (length cs), get_or-append_seam cs b [] 0)

  -- the block at hand is no candidate, or is one
  missed : (b : ℕ) → block_marked near size b ≡ false → blocks_marked near size (b + 1) ≡ blocks_marked near size b
  unfolding blocks_marked
  missed b out = filter_miss (block_marked near size) 0 b (rw zero-add out)

  hit : (b : ℕ) → block_marked near size b ≡ true → blocks_marked near size (b + 1) ≡ blocks_marked near size b ++ (b ∷ [])
  unfolding blocks_marked
  hit b marks = rw zero-add at (filter_hit (block_marked near size) 0 b (rw zero-add marks))

  -- whether the sections are right for the candidates below b
  abbrev right_below : ℕ → Bool
  right_below b = sections_right e n ev (blocks_marked near size b)

  -- a section that is wrong stays wrong
  still_wrong : (b j : ℕ) → right_below b ≡ false → right_below (b + j) ≡ false
  still_wrong b zero wrong = rw add-zero wrong
  still_wrong b (suc j) wrong = rw (add-suc b j, ← add-one (b + j)) (go (block_marked near size (b + j)) refl (still_wrong b j wrong))
    where
      go : (marks : Bool) → block_marked near size (b + j) ≡ marks → right_below (b + j) ≡ false → right_below (b + j + 1) ≡ false
      go true m w = rw (hit (b + j) m, sections_more (blocks_marked near size (b + j)) (b + j), w)
      go false m w = rw (missed (b + j) m) w

  module _ {count b : ℕ} (f : Forming e n ev near size count b) where
    pub forming_miss : block_marked near size b ≡ false → Forming e n ev near size count (b + 1)
    forming_miss out = let same = missed b out in record { few = omega (arith, f.few); counted = rw same f.counted; right = rw same f.right }

    -- a candidate's section is right or is not
    next : block_marked near size b ≡ true → right_below (b + 1) ≡ section_right e n ev count b
    next marks = rw (hit b marks, sections_more (blocks_marked near size b) b, f.right, f.counted)

    pub forming_hit : block_marked near size b ≡ true → section_right e n ev count b ≡ true → Forming e n ev near size (count + 1) (b + 1)
    forming_hit marks r =
        record { few = omega (arith, f.few); counted = rw (hit b marks, length-append (blocks_marked near size b) (b ∷ []), f.counted); right = next marks ∙ r }

    pub forming_wrong : (blocks : ℕ) → b < blocks → block_marked near size b ≡ true → section_right e n ev count b ≡ false → None ≡ form_of e n ev (blocks_marked near size blocks)
    unfolding form_of
    forming_wrong blocks l marks r =
        let all : b + 1 + (blocks - (b + 1)) ≡ blocks = omega arith in
        let wrong = rw all at (still_wrong (b + 1) (blocks - (b + 1)) (next marks ∙ r)) in
        rw wrong

    -- every block was looked at
    pub forming_ended : (blocks : ℕ) → b ≡ blocks → then_some (head_right e n ev count) count ≡ form_of e n ev (blocks_marked near size blocks)
    unfolding form_of
    forming_ended blocks whole = rw (← whole, f.right, ← f.counted) (go (head_right e n ev count))
      where
        go : (right : Bool) → then_some right count ≡ cond right (Some count) None
        go true = refl
        go false = refl
