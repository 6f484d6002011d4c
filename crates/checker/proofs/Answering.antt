-- The first fault of evidence is that of its form, of its parts or of its verdict. Assumes nothing.
use mathlib.Core.Path.{◌≡◌, sym, ◌∙◌}
use mathlib.Core.Bool.{true, false, not, not-not}
use mathlib.Core.List.{List, [], ◌∷◌, ◌++◌, map, map-id}
use Prim.Native.Nat.{ℕ, suc}
use native.Mathlib.Omega.{arith}
use lib.Dec.{eqb}
use lib.ListN.{length, get_or}
use Rattle.lists.specs.Lists.{range, on, first}
use Rattle.lists.proofs.Ranges.{length_range, map_shift}
use Rattle.lists.proofs.Faults.{on_zero, first_zero, first_in, first_map_none}
use Rattle.picture.specs.declared.Header.{Header}
use Rattle.picture.specs.declared.refusals.Refusal.{Refusal}
use Rattle.picture.specs.Refusals.{refusal_number}
use Rattle.picture.specs.Layout.{edition_of}
use Rattle.picture.specs.Picture.{Picture, picture_of}
use Rattle.picture.specs.Faults.{picture_fault}
use Rattle.picture.specs.Inner.{Read}
use Rattle.picture.proofs.Facts.{read_edition}
use Rattle.picture.proofs.Refusing.{refused_first}
use Rattle.network.specs.Words.{slot_count, is_held}
use Rattle.network.specs.Tests.{weighed, served_weight, candidates}
use Rattle.network.proofs.Weights.{weighed_block}
use Rattle.network.proofs.Blocks.{read_slots}
use Rattle.evidence.specs.Canonical.{weighings}
use Rattle.evidence.specs.Contents.{head_in, first_forest}
use Rattle.evidence.specs.Checks.{forest_right, form_right, section_fault, verdict_right, check_fault}
use Rattle.evidence.proofs.Judging.{numbers_test, test_numbers, right_form}
use Rattle.evidence.proofs.Weighings.{weighings_length, weighing_at, weighings_made}
use Rattle.checker.specs.Forests.{part_fault, parts_fault, CutsOf}
use Rattle.checker.specs.Verdict.{cost_in, stated}
use Rattle.checker.proofs.Going.{parts, part_of}

-- ---- the faults, part by part

module _ (bs ev : List ℕ) where
  abbrev p : Picture
  p = picture_of bs

  -- what is left after the parts
  abbrev rest : List ℕ
  rest = on (not (verdict_right ev (weighings p))) 16 ∷ []

  check_parts : check_fault bs ev ≡ first (picture_fault bs ∷ on (not (form_right (edition_of bs) p ev)) 13 ∷ parts_fault bs ev ∷ rest)
  unfolding check_fault parts_fault part_fault range
  check_parts =
      let forest : ℕ = on (not (forest_right p (is_held p) (first_forest (edition_of bs) (slot_count p) ev))) 14 in
      let a : List ℕ = forest ∷ on (not (eqb (head_in ev).served (served_weight p))) 15 ∷ [] in
      let k : List ℕ = picture_fault bs ∷ on (not (form_right (edition_of bs) p ev)) 13 ∷ [] in
      let m : List ℕ = map (part_fault bs ev) (range 1 (length (candidates p))) in
      let same : map (section_fault (edition_of bs) p ev (weighings p)) (range 0 (length (weighings p))) ≡ m =
      rw weighings_length (sym (map_shift (part_fault bs ev) 0 (length (candidates p)))) in
      rw same (first_in (k ++ a) m rest ∙ sym (first_in k (first a ∷ m) rest ∙ first_in k a (m ++ rest)))

  -- the picture has a fault
  pub check_picture : (e : Refusal) → refusal_number e ≡ picture_fault bs → refusal_number e ≡ check_fault bs ev
  check_picture e q = refused_first e _ q ∙ sym check_parts

  module _ {h : Header} (r : Read bs h) where
    -- the form is wrong
    pub check_form : form_right (edition_of bs) p ev ≡ false → 13 ≡ check_fault bs ev
    unfolding on first
    check_form f = sym (check_parts ∙ rw (r.accepted, f))

    module _ (f : form_right (edition_of bs) p ev ≡ true) where
      -- a part has a fault
      pub check_part : (e : Refusal) → refusal_number e ≡ parts_fault bs ev → refusal_number e ≡ check_fault bs ev
      unfolding on first
      check_part e q = refused_first e rest q ∙ sym (check_parts ∙ rw (r.accepted, f))

      module _ (none : 0 ≡ parts_fault bs ev) where
        -- what the sections state is what the candidates weigh
        pub stated_weighings : {cuts : List ℕ} → CutsOf p cuts → stated h.edition h.slots ev cuts ≡ weighings p
        unfolding stated cost_in part_fault parts_fault section_fault numbers_test
        stated_weighings {cuts = cuts} numbers =
            rw (← read_slots bs h r, read_edition bs h r, numbers.many)
            (weighings_made p (λ w. w) (cost_in (edition_of bs) (slot_count p) ev cuts)
            (λ i l.
            let w = weighed p (get_or (candidates p) i 0) in
            let y = first_map_none (part_fault bs ev) 0 (parts bs) (sym none) (suc i) (rw length_range (omega arith)) in
            let z = rw (part_of, weighing_at p i l) at y in
            let m = test_numbers (edition_of bs) p ev i w (rw not-not at (on_zero (not (numbers_test (edition_of bs) p ev i w)) 14 (first_zero _ z 1))) in
            let b = (right_form (edition_of bs) p ev (rw f tt)).blocks i l ∙ sym (weighed_block p (get_or (candidates p) i 0)) in
            λ j. record { block = b j; loss = m.0 j; cuts = numbers.same i (omega (arith, numbers.many)) j; mark = m.1 j }) ∙ map-id (weighings p))

        -- the verdict is wrong, or nothing is
        pub check_verdict : verdict_right ev (weighings p) ≡ false → 16 ≡ check_fault bs ev
        unfolding on first
        check_verdict v = sym (check_parts ∙ rw (r.accepted, f, ← none, v))

        pub check_none : verdict_right ev (weighings p) ≡ true → 0 ≡ check_fault bs ev
        unfolding on first
        check_none v = sym (check_parts ∙ rw (r.accepted, f, ← none, v))
