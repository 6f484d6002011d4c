-- What is known of an accepted picture and its header. Assumes nothing.
use mathlib.Core.Path.{◌≡◌, sym, ap, ◌∙◌, subst}
use mathlib.Core.List.{List}
use Prim.Native.Nat.{ℕ, ◌≤◌}
use lib.ListN.{length}
use Rattle.picture.specs.declared.Header.{Header}
use Rattle.picture.specs.Layout.{edition2, edition_of, state_max}
use Rattle.picture.specs.Picture.{Picture, header_in, header_of, picture_of, picture_with, slot_of}
use Rattle.picture.specs.Rules.{Sizes, Counts, Links}
use Rattle.picture.specs.Inner.{Read, Known, Limited}
use Rattle.picture.proofs.Editions.{known_for}
use Rattle.picture.proofs.Starts.{few, slots_length, endpoints_length, links_length, services_length}
use Rattle.picture.proofs.Kept.{ServiceLinks}
use Rattle.picture.proofs.Accepted.{accepted_kept}

module _ (bs : List ℕ) (h : Header) (r : Read bs h) where
  -- the fields that are found with this header are the picture's
  pub read_picture : picture_with h bs ≡ picture_of bs
  unfolding picture_of
  read_picture = ap (λ (k : Header). picture_with k bs) r.header

  -- its edition is the bytes' own, one of the two
  pub read_edition : h.edition ≡ edition_of bs
  unfolding header_of header_in
  read_edition = ap (λ (k : Header). k.edition) r.header

  pub read_known : Known h.edition
  read_known = subst Known (sym read_edition) (known_for _)

  -- its numbers keep their limits
  pub read_sizes : Sizes h
  read_sizes = subst (Sizes) (sym r.header) (accepted_kept bs r.accepted).sizes

  pub read_limited : Limited h
  read_limited = record { known = read_known; slots = read_sizes.slots_most; counts = subst Counts (sym r.header) (accepted_kept bs r.accepted).counts }

  pub read_slots_most : h.slots ≤ edition2.slots_max
  read_slots_most = (few h read_limited).slots

  -- and its links name what is there
  pub read_links : Links h.slots (picture_of bs)
  read_links = subst (λ (k : Header). Links k.slots (picture_of bs)) (sym r.header) (accepted_kept bs r.accepted).links

  pub read_services : ServiceLinks h.slots h.endpoints (picture_of bs)
  read_services = subst (λ (k : Header). ServiceLinks k.slots k.endpoints (picture_of bs)) (sym r.header) (accepted_kept bs r.accepted).service_links

  -- the lists are as long as it says
  pub read_slots_length : length (picture_of bs).slots ≡ h.slots
  read_slots_length = ap (λ (p : Picture). length p.slots) (sym read_picture) ∙ slots_length h bs

  pub read_endpoints_length : length (picture_of bs).endpoints ≡ h.endpoints
  read_endpoints_length = ap (λ (p : Picture). length p.endpoints) (sym read_picture) ∙ endpoints_length h bs

  pub read_links_length : length (picture_of bs).links ≡ h.links
  read_links_length = ap (λ (p : Picture). length p.links) (sym read_picture) ∙ links_length h bs

  pub read_services_length : length (picture_of bs).service_links ≡ h.service_links
  read_services_length = ap (λ (p : Picture). length p.service_links) (sym read_picture) ∙ services_length h bs

  -- and each slot has one of the three states
  pub read_state_most : (v : ℕ) → 1 ≤ v → v ≤ h.slots → (slot_of (picture_with h bs) v).state ≤ state_max
  read_state_most v l m =
      subst (λ (p : Picture). (slot_of p v).state ≤ state_max) (sym read_picture)
      ((accepted_kept bs r.accepted).states.state v l (subst (λ (k : Header). v ≤ k.slots) r.header m))

  -- a slot's number and an endpoint's are numbers in range
  pub read_slot : (v : ℕ) → (1 ≤ v) × (v ≤ (header_of bs).slots) → Limited h × (1 ≤ v) × (v ≤ h.slots)
  read_slot v w = (read_limited, w.0, rw r.header w.1)

  pub read_endpoint : (c : ℕ) → (1 ≤ c) × (c ≤ (header_of bs).endpoints) → Limited h × (1 ≤ c) × (c ≤ h.endpoints)
  read_endpoint c w = (read_limited, w.0, rw r.header w.1)
