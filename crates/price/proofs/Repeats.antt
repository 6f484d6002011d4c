-- A repeated link or service link, anywhere in its list, changes nothing that pricing answers. Assumes nothing.
use mathlib.Core.Path.{◌≡◌, sym, subst, ◌∙◌}
use mathlib.Core.Bool.{Bool}
use mathlib.Core.Logic.{by_cases, ◌≢◌}
use mathlib.Core.List.{List, [], ◌∷◌, ◌++◌, map}
use Prim.Native.Nat.{ℕ, ◌-◌}
use native.Mathlib.Decide.{ℕ_discrete}
use lib.Dec.{T}
use lib.ListN.{replicate}
use Rattle.lists.specs.Lists.{range, first}
use Rattle.lists.proofs.Faults.{first_map_some}
use Rattle.picture.specs.Refusals.{answer_of}
use Rattle.picture.specs.Layout.{blocks_max}
use Rattle.picture.specs.Picture.{Picture, picture_of}
use Rattle.picture.specs.Faults.{picture_fault}
use Rattle.picture.specs.Rules.{no_link}
use Rattle.network.specs.Repeats.{Repeated}
use Rattle.network.proofs.Repeats.{repeated_links, same_blocks, same_held, same_left, same_endpoints, same_where, same_cut, repeated_marks}
use Rattle.price.specs.declared.Record.{Record}
use Rattle.price.specs.Traffic.{records_of, traffic}
use Rattle.price.specs.Faults.{link_start_fault, flat_fault, length_fault, records_fault, price_fault}
use Rattle.price.specs.Answers.{counters, pricing}
use Rattle.price.proofs.Judged.{right_flat, flat_right, start_told}

-- where a network is not flat, 19 is told
flat_told : (p : Picture) → flat_fault p ≢ 0 → flat_fault p ≡ 19
unfolding flat_fault
flat_told p n = let f = first_map_some link_start_fault no_link p.links n in f.same ∙ start_told _ f.faulty

module _ {p q : Picture} (r : Repeated p q) where
  -- the same links lead, so both networks are flat or neither is
  flat_same : flat_fault p ≡ flat_fault q
  flat_same =
      by_cases
      (ℕ_discrete (flat_fault p) 0)
      (λ e. e ∙ sym (flat_right q (record { start = λ a b t. (right_flat p e).start a b (subst (λ (j : ℕ → ℕ → Bool). T (j a b)) (sym (repeated_links r)) t) })))
      (λ n. flat_told p n ∙ sym (flat_told q (λ e. n (flat_right p (record { start = λ a b t. (right_flat q e).start a b (subst (λ (j : ℕ → ℕ → Bool). T (j a b)) (repeated_links r) t) })))))

  -- the blocks cut the same endpoints, and these weigh the same by the same records
  counters_same : (rs : List Record) → counters p rs ≡ counters q rs
  unfolding counters
  counters_same rs =
      λ i.
      let now : List Bool = repeated_marks r i (same_held r i) in
      map (λ b. same_where r i (traffic rs) (same_cut r i now (repeated_marks r i (same_left r i b)))) (range 0 (same_blocks r i)) ++ replicate (blocks_max - same_blocks r i) 0

-- so the number of the first fault is the same, and so are the counters
pub repeated_pricing : (bs bs' records : List ℕ) → picture_fault bs ≡ 0 → picture_fault bs' ≡ 0 → Repeated (picture_of bs) (picture_of bs') → pricing bs records ≡ pricing bs' records
unfolding pricing price_fault
repeated_pricing bs bs' records ok ok' r =
    rw (ok, ok')
    (λ i. answer_of (first (0 ∷ flat_same r i ∷ length_fault records ∷ records_fault (same_endpoints r i) (records_of records) ∷ [])) (counters_same r (records_of records) i))
