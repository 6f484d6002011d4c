-- What show hands back: the empty part, or the section of the block that is named. Assumes nothing.
use mathlib.Core.Path.{◌≡◌, ap, ◌∙◌}
use mathlib.Core.Bool.{and-false}
use mathlib.Core.Logic.{◌≢◌, by_cases}
use mathlib.Core.List.{List}
use Prim.Native.Nat.{ℕ, ◌+◌, ◌*◌, ◌/◌, ◌≤◌, ◌<◌}
use native.Mathlib.Omega.{arith}
use native.Mathlib.Decide.{ℕ_discrete}
use native.Mathlib.Nat.{mul-le-mul_right, suc-mul}
use borrow.Author.Tests.{eq-eqb, ne_eqb}
use lib.Dec.{eqb, eqb→eq}
use lib.ListN.{length, get_or, length-take, length-drop}
use Rattle.bits.specs.Bits.{field_at}
use Rattle.bits.proofs.Reading.{field_at_part}
use Rattle.lists.specs.Lists.{place, sum, Placed}
use Rattle.lists.proofs.Tests.{eq_T}
use Rattle.lists.proofs.Searches.{place_holds, place_first}
use Rattle.picture.specs.Inner.{Known}
use Rattle.picture.proofs.Editions.{known_for}
use Rattle.picture.specs.Layout.{edition_of, edition_number, field_in}
use Rattle.picture.specs.Picture.{picture_of}
use Rattle.network.specs.Words.{slot_count}
use Rattle.network.specs.Tests.{candidates}
use Rattle.network.proofs.Candidates.{candidate_below, candidates_all}
use Rattle.evidence.specs.declared.Part.{Part}
use Rattle.evidence.specs.Layout.{node_bytes, section_head_widths, section_bytes, section_at, evidence_bytes}
use Rattle.evidence.specs.Contents.{head_in, section_in}
use Rattle.evidence.specs.Checks.{check_fault}
use Rattle.evidence.specs.Calls.{shown_part, shown, SectionOf}
use Rattle.evidence.proofs.Places.{section_bytes_lem}
use Rattle.evidence.proofs.Lengths.{sections_end}
use Rattle.evidence.proofs.Passing.{Passes, check_passes}
use Rattle.evidence.proofs.Unique.{verdict_named}

module _ (bs ev : List ℕ) where
  -- where the block that is named stands among the candidates
  abbrev pub named_at : ℕ
  named_at = place (λ c. eqb c (head_in ev).block) (candidates (picture_of bs))

  -- the check fails, or the verdict is none
  pub shown_failed : check_fault bs ev ≢ 0 → shown_part bs ev ≡ record { start = 0; size = 0 }
  unfolding shown_part
  shown_failed n = rw (ne_eqb (check_fault bs ev) 0 n)

  pub shown_none : (head_in ev).verdict ≢ 1 → shown_part bs ev ≡ record { start = 0; size = 0 }
  unfolding shown_part
  shown_none n = rw (ne_eqb (head_in ev).verdict 1 n, and-false (eqb (check_fault bs ev) 0))

  module _ (passed : check_fault bs ev ≡ 0) (one : (head_in ev).verdict ≡ 1) where
    pub shown_part_lem : shown_part bs ev ≡ record { start = section_at (edition_of bs) (slot_count (picture_of bs)) named_at / 8; size = section_bytes (edition_of bs) (slot_count (picture_of bs)) }
    unfolding shown_part
    shown_part_lem = rw (eq-eqb (check_fault bs ev) 0 passed, eq-eqb (head_in ev).verdict 1 one)

    known : Known (edition_of bs)
    known = known_for (edition_number bs)

    passes : Passes bs ev
    passes = check_passes bs ev passed

    placed : Placed 0 (candidates (picture_of bs)) (head_in ev).block
    placed =
        let c = (verdict_named passes.verdict (λ z. absurd (omega (arith, one)))).candidate in
        candidates_all (picture_of bs) (candidate_below bs passes.accepted (head_in ev).block c) c

    named_within : named_at < length (candidates (picture_of bs))
    named_within =
        let r = placed in
        omega (arith, place_first 0 (λ c. eqb c (head_in ev).block) (candidates (picture_of bs)) r.at r.within (eq_T _ _ r.same), r.within)

    named_block : get_or (candidates (picture_of bs)) named_at 0 ≡ (head_in ev).block
    named_block =
        let r = placed in
        eqb→eq _ _ (place_holds 0 (λ c. eqb c (head_in ev).block) (candidates (picture_of bs)) r.at r.within (eq_T _ _ r.same))

    section_room : (shown_part bs ev).start + (shown_part bs ev).size ≤ length ev
    unfolding evidence_bytes
    section_room =
        let n = slot_count (picture_of bs) in
        let size = section_bytes (edition_of bs) n in
        rw shown_part_lem
        (omega (
          arith,
          mul-le-mul_right size named_within,
          passes.form.size,
          sections_end known n named_at,
          sections_end known n (length (candidates (picture_of bs))),
          suc-mul named_at size,
        ))

    -- a section starts at a whole byte
    whole_start : (shown_part bs ev).start * 8 ≡ section_at (edition_of bs) (slot_count (picture_of bs)) named_at
    whole_start = rw shown_part_lem (let e = sections_end known (slot_count (picture_of bs)) named_at in omega arith)

    -- "hands back the chosen candidate's section of the evidence itself"
    pub shown_section : SectionOf (edition_of bs) (slot_count (picture_of bs)) (head_in ev).block (shown bs ev)
    unfolding shown section_in section_head_widths field_in sum
    shown_section =
        let n = slot_count (picture_of bs) in
        let size : (shown_part bs ev).size ≡ 5 + n * node_bytes (edition_of bs) = ap (λ (p : Part). p.size) shown_part_lem ∙ section_bytes_lem known n in
        record {
          size = simp (length-take, length-drop) (omega (arith, section_room, size));
          begins =
              field_at_part ev (shown_part bs ev).start (shown_part bs ev).size 0 8 (omega (arith, size))
              ∙ ap (λ (q : ℕ). field_at ev q 8) (omega (arith, whole_start))
              ∙ passes.form.blocks named_at named_within
              ∙ named_block;
        }

  -- the part is within the evidence
  pub shown_room : (shown_part bs ev).start + (shown_part bs ev).size ≤ length ev
  shown_room =
      by_cases
      (ℕ_discrete (check_fault bs ev) 0)
      (λ z. by_cases (ℕ_discrete (head_in ev).verdict 1) (λ e. section_room z e) (λ n. rw (shown_none n) (omega arith)))
      (λ n. rw (shown_failed n) (omega arith))
