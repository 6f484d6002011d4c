-- The section that show gives is the chosen candidate's. Assumes nothing.
use mathlib.Core.Path.{◌≡◌, sym, ap, ◌∙◌}
use mathlib.Core.List.{List}
use Prim.Native.Nat.{ℕ, ◌≤◌}
use native.Mathlib.Omega.{arith}
use lib.Dec.{eqb}
use lib.ListN.{length}
use Rattle.lists.specs.Lists.{range, place}
use Rattle.lists.proofs.Ranges.{range_made}
use Rattle.lists.proofs.Searches.{place_le, place_map}
use Rattle.picture.specs.declared.Header.{Header}
use Rattle.picture.specs.Layout.{edition_of, blocks_max}
use Rattle.picture.specs.Picture.{picture_of}
use Rattle.picture.specs.Inner.{Read}
use Rattle.picture.proofs.Facts.{read_edition}
use Rattle.network.specs.Words.{slot_count}
use Rattle.network.specs.Tests.{candidates}
use Rattle.network.proofs.Blocks.{read_slots}
use Rattle.evidence.specs.Contents.{head_in, section_in}
use Rattle.evidence.specs.Checks.{check_fault}
use Rattle.evidence.proofs.Fields.{candidates_few}
use Rattle.evidence.proofs.Passing.{Passes, check_passes}
use Rattle.evidence.proofs.Showing.{named_at}
use Rattle.checker.specs.Verdict.{section_named}

module _ (bs ev : List ℕ) (passed : check_fault bs ev ≡ 0) where
  passes : Passes bs ev
  passes = check_passes bs ev passed

  pub count_few : (head_in ev).count ≤ blocks_max
  count_few = omega (arith, passes.form.count, candidates_few bs passes.accepted)

  pub named_few : named_at bs ev ≤ blocks_max
  named_few = omega (arith, place_le (λ c. eqb c (head_in ev).block) (candidates (picture_of bs)), candidates_few bs passes.accepted)

  -- the sections are the candidates', in their order
  pub named_section : {h : Header} → Read bs h → section_named h.edition h.slots ev (head_in ev).count (head_in ev).block ≡ named_at bs ev
  unfolding section_named
  named_section {h} r =
      let f = passes.form in
      let block : ℕ → ℕ = λ i. (section_in (edition_of bs) (slot_count (picture_of bs)) ev i).block in
      rw (read_edition bs h r, ← read_slots bs h r, f.count)
      (sym (place_map (λ c. eqb c (head_in ev).block) block (range 0 (length (candidates (picture_of bs)))))
      ∙ ap (place (λ c. eqb c (head_in ev).block)) (range_made 0 block (candidates (picture_of bs)) f.blocks))
