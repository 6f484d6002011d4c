-- A repeated link or service link, anywhere in its list, changes no field of a picture's evidence, and nothing that a check finds in evidence
-- from anywhere. Assumes nothing.
use mathlib.Core.Path.{◌≡◌, ap, ◌∙◌}
use mathlib.Core.Bool.{Bool, not, ◌&&◌}
use mathlib.Core.List.{List, [], ◌∷◌, ◌++◌, map}
use Prim.Native.Nat.{ℕ}
use lib.Dec.{eqb}
use lib.ListN.{length, get_or}
use Rattle.lists.specs.Lists.{range, on, first, all, flat}
use Rattle.graph.specs.declared.Node.{Node}
use Rattle.graph.specs.Rounds.{forest}
use Rattle.packing.specs.Packing.{fields_of}
use Rattle.picture.specs.declared.Edition.{Edition}
use Rattle.picture.specs.Layout.{edition_of}
use Rattle.picture.specs.Picture.{Picture, picture_of}
use Rattle.picture.specs.Faults.{picture_fault}
use Rattle.network.specs.declared.Cost.{Cost}
use Rattle.network.specs.Words.{slot_count, joins}
use Rattle.network.specs.Repeats.{Repeated}
use Rattle.network.proofs.Repeats.{repeats_all, same_slots, same_held, same_left, repeated_links, repeated_served_weight, repeated_weighed, repeated_candidates}
use Rattle.evidence.specs.Layout.{section_head_widths}
use Rattle.evidence.specs.Canonical.{no_cost, weighings, least, head_fields, forest_fields, forest_of, section_fields, evidence_fields}
use Rattle.evidence.specs.Contents.{head_in, section_in, first_forest, section_forest}
use Rattle.evidence.specs.Checks.{node_right, link_right, forest_right, head_right, sections_right, form_right, section_fault, verdict_right, check_fault}

module _ {p q : Picture} (r : Repeated p q) where
  pub repeated_weighings : weighings p ≡ weighings q
  unfolding weighings
  repeated_weighings = λ i. map (repeated_weighed r i) (repeated_candidates r i)

  -- ---- the fields of the evidence

  pub repeated_evidence : (e : Edition) → evidence_fields e p ≡ evidence_fields e q
  unfolding evidence_fields section_fields forest_of
  repeated_evidence e =
      λ i.
      let ws : List Cost = repeated_weighings i in
      head_fields e (least ws) (length ws) (repeated_served_weight r i)
      ++ (forest_fields e (forest (repeated_links r i) (same_held r i) (same_slots r i))
      ++ flat (map (λ w. fields_of section_head_widths (w.block ∷ w.loss ∷ w.mark ∷ []) ++ forest_fields e (forest (repeated_links r i) (same_left r i w.block) (same_slots r i))) ws))

  -- ---- what a check finds

  -- the rules of a forest, node by node and link by link
  forest_same : {held held' : ℕ → Bool} {xs xs' : List Node} → held ≡ held' → xs ≡ xs' → forest_right p held xs ≡ forest_right q held' xs'
  unfolding forest_right
  forest_same {held' = held'} {xs' = xs'} h x =
      (λ i. all (node_right (repeated_links r i) (h i) (x i)) (range 1 (same_slots r i)) && all (link_right (h i) (x i)) p.links)
      ∙ ap (λ (b : Bool). all (node_right (joins q.links) held' xs') (range 1 (slot_count q)) && b) (repeats_all (link_right held' xs') r.links)

  module _ (e : Edition) (ev : List ℕ) where
    form_same : form_right e p ev ≡ form_right e q ev
    unfolding form_right
    form_same =
        λ i.
        let cs : List ℕ = repeated_candidates r i in
        let n : ℕ = same_slots r i in
        head_right e n ev (length cs) && sections_right e n ev cs

    section_same : (k : ℕ) → section_fault e p ev (weighings p) k ≡ section_fault e q ev (weighings q) k
    unfolding section_fault
    section_same k =
        λ i.
        let n : ℕ = same_slots r i in
        let w : Cost = get_or (repeated_weighings i) k no_cost in
        first
        (on (not (forest_same (λ j. same_left r j (get_or (repeated_weighings j) k no_cost).block) (λ j. section_forest e (same_slots r j) ev k) i)) 14
        ∷ on (not (eqb (section_in e n ev k).loss w.loss && eqb (section_in e n ev k).mark w.mark)) 15
        ∷ [])

-- two pictures as bytes, of one edition, with the same first fault or none
pub repeated_check : (bs bs' : List ℕ) → edition_of bs ≡ edition_of bs' → picture_fault bs ≡ picture_fault bs' → Repeated (picture_of bs) (picture_of bs') → (ev : List ℕ) → check_fault bs ev ≡ check_fault bs' ev
unfolding check_fault
repeated_check bs bs' d z r ev =
    λ i.
    let ws : List Cost = repeated_weighings r i in
    first
    (z i
    ∷ on (not (form_same r (d i) ev i)) 13
    ∷ on (not (forest_same r (same_held r) (λ j. first_forest (d i) (same_slots r j) ev) i)) 14
    ∷ on (not (eqb (head_in ev).served (repeated_served_weight r i))) 15
    ∷ first (map (λ k. section_same r (d i) ev k i) (range 0 (length ws)))
    ∷ on (not (verdict_right ev ws)) 16
    ∷ [])
