-- A repeated link or service link, anywhere in its list, changes neither an act's fault nor what the act does. Assumes nothing.
use mathlib.Core.Path.{◌≡◌, refl, sym, ◌∙◌}
use mathlib.Core.Bool.{Bool, not, ◌&&◌, ◌||◌, cond}
use mathlib.Core.List.{List, [], ◌∷◌, map}
use mathlib.Core.Logic.{by_cases}
use Prim.Native.Nat.{ℕ, ◌+◌, ◌*◌}
use native.Mathlib.Decide.{ℕ_discrete}
use lib.Dec.{eqb, leb, ltb}
use lib.ListN.{length}
use Rattle.lists.specs.Lists.{range, on, first, any, filter}
use Rattle.picture.specs.Picture.{Picture, picture_of}
use Rattle.picture.specs.Faults.{picture_fault}
use Rattle.network.specs.Words.{without_block}
use Rattle.network.specs.Tests.{is_near_held}
use Rattle.network.specs.Repeats.{Repeated}
use Rattle.network.proofs.Repeats.{same_slot, same_slots, same_blocks, same_block, same_held, repeated_marks, same_protected}
use Rattle.weigh.specs.Weighing.{block_fault}
use Rattle.acts.specs.declared.Act.{Act}
use Rattle.acts.specs.declared.Act.TheVariants.{Evict, Reload, Free}
use Rattle.acts.specs.Acts.{after, held_or_recoverable, block_slots, recoverable_near, near_after, slot_after, act_on}
use Rattle.acts.specs.Faults.{changes, cuts_over, cut_fault, near_fault, act_fault}
use Rattle.acts.specs.Answers.{act_bytes}
use Rattle.acts.proofs.Acted.{acted_picture}
use Rattle.acts.proofs.Judged.{done_doable, done_bytes_lem, refused_bytes}

module _ {p q : Picture} (r : Repeated p q) (b : ℕ) where
  changes_same : (a : Act) → changes a p b ≡ changes a q b
  unfolding changes block_slots
  changes_same a = λ i. any (λ v. not (eqb (after a (same_slot r i v).state) (same_slot r i v).state)) (range (b * r.block_size i + 1) (r.block_size i))

  over_same : {held held' : ℕ → Bool} → held ≡ held' → cuts_over p held b ≡ cuts_over q held' b
  unfolding cuts_over without_block
  over_same e = λ i. same_protected r i (repeated_marks r i (e i)) (repeated_marks r i (λ v. e i v && not (same_block r i b v)))

  unfreed_same : held_or_recoverable p ≡ held_or_recoverable q
  unfolding held_or_recoverable
  unfreed_same = λ i v. same_held r i v || eqb (same_slot r i v).state 1

  cut_same : (a : Act) → cut_fault a p b ≡ cut_fault a q b
  unfolding cut_fault
  cut_same Evict = λ i. on (over_same (same_held r) i) 10
  cut_same Reload = refl
  cut_same Free = λ i. on (over_same (same_held r) i || over_same unfreed_same i) 10

  recoverable_same : recoverable_near p b ≡ recoverable_near q b
  unfolding recoverable_near
  recoverable_same = λ i v. same_block r i b v && ((same_slot r i v).near && eqb (same_slot r i v).state 1)

  near_same : (a : Act) → near_fault a p b ≡ near_fault a q b
  unfolding near_fault near_after is_near_held
  near_same Evict = refl
  near_same Reload =
      λ i.
      let adds : ℕ → Bool = recoverable_same i in
      let slots : List ℕ = range 1 (same_slots r i) in
      on (any adds slots && ltb (r.near_limit i) (length (filter (λ v. (same_held r i v && (same_slot r i v).near) || adds v) slots))) 12
  near_same Free = refl

  -- the pictures after the act again differ in repeats alone
  acted_repeated : (a : Act) → Repeated (act_on a p b) (act_on a q b)
  unfolding act_on slot_after
  acted_repeated a =
      record {
        block_size = r.block_size;
        near_limit = r.near_limit;
        slots = λ i. map (λ v. record { state = cond (same_block r i b v) (after a (same_slot r i v).state) (same_slot r i v).state; near = (same_slot r i v).near }) (range 1 (same_slots r i));
        endpoints = r.endpoints;
        links = r.links;
        service_links = r.service_links;
      }

-- two accepted pictures as bytes
module _ (bs bs' : List ℕ) (ok : picture_fault bs ≡ 0) (ok' : picture_fault bs' ≡ 0) (r : Repeated (picture_of bs) (picture_of bs')) (a : Act) (b : ℕ) where
  pub repeated_act : act_fault a bs b ≡ act_fault a bs' b
  unfolding act_fault block_fault
  repeated_act = λ i. first ((ok ∙ sym ok') i ∷ on (leb (same_blocks r i) b) 8 ∷ on (not (changes_same r b a i)) 11 ∷ cut_same r b a i ∷ near_same r b a i ∷ [])

  pub repeated_after : Repeated (picture_of (act_bytes a bs b)) (picture_of (act_bytes a bs' b))
  repeated_after =
      by_cases (ℕ_discrete (act_fault a bs b) 0)
      (λ z.
      let z' = sym repeated_act ∙ z in
      rw (done_bytes_lem a bs b z, done_bytes_lem a bs' b z', acted_picture a bs b ok (done_doable a bs b z).there, acted_picture a bs' b ok' (done_doable a bs' b z').there)
      (acted_repeated r b a))
      (λ n. rw (refused_bytes a bs b n, refused_bytes a bs' b (λ z. n (repeated_act ∙ z))) r)
