-- The parts of a picture have their room in the buffer, and put one behind the other they are its bytes. Assumes nothing.
use mathlib.Core.Path.{◌≡◌, sym, ap, ap₂, ◌∙◌}
use mathlib.Core.Bool.{false}
use mathlib.Core.List.{List, [], ◌++◌, map}
use Prim.Native.Nat.{ℕ, suc, ◌+◌, ◌*◌, ◌^◌, ◌≤◌, ◌<◌, zero-le, suc-le-suc}
use native.Mathlib.Omega.{arith}
use native.Mathlib.Nat.{add-zero}
use lib.ListN.{length, get_or, drop, length-map, get_or-map}
use Rattle.lists.specs.Lists.{sum, item}
use Rattle.lists.proofs.Zips.{length_zip, get_d_zip}
use Rattle.picture.specs.declared.Edition.{Edition}
use Rattle.picture.specs.declared.Header.{Header}
use Rattle.picture.specs.declared.Link.{Link}
use Rattle.picture.specs.Layout.{state_max, slot_widths, endpoint_widths, link_widths, service_link_widths, slots_at, endpoints_at, links_at, service_links_at, end_at, size_of}
use Rattle.picture.specs.Picture.{Picture, slot_of}
use Rattle.picture.specs.Rules.{no_link}
use Rattle.picture.specs.Inner.{Limited}
use Rattle.picture.proofs.Editions.{known_for, widths}
use Rattle.picture.proofs.Starts.{few, ordered}
use Rattle.write.specs.Columns.{Lists, slot_from, link_from, picture_from, header_for}
use Rattle.write.specs.Fields.{picture_bytes}
use Rattle.write.specs.Rules.{size_for}
use Rattle.write.specs.Answers.{bytes_for}
use Rattle.write.specs.declared.tail.Tail.{Tail}
use Rattle.write.specs.Inner.{columns_header, SlotsFit, EndpointsFit, LinksFit, HeaderFits, Ready, Written}
use Rattle.write.proofs.Right.{edition_in, header_from, Right}
use Rattle.write.proofs.Judged.{handed_right}
use Rattle.write.proofs.Fields.{header_fits}
use Rattle.write.proofs.Judging.{right_header, right_limited}
use Rattle.write.proofs.Making.{Makes, part_room, header_room}

module _ {l : Lists} {h : Header} {buf : List ℕ} (r : Ready l h buf) where
  abbrev p : Picture
  p = picture_from l

  abbrev e : Edition
  e = h.edition

  right : Right l
  right = handed_right l r.right

  -- the header by the columns is the picture's
  pub ready_header : h ≡ header_from l
  ready_header = r.header ∙ right_header right

  -- and its edition the lists'
  ready_edition : h.edition ≡ edition_in l
  unfolding columns_header
  ready_edition = ap (λ (k : Header). k.edition) r.header

  pub ready_limited : Limited h
  ready_limited = rw r.header (right_limited right)

  pub ready_makes : Makes h (picture_from l) buf
  unfolding size_for
  ready_makes =
      record { own = ready_header ∙ ap (λ (x : Edition). header_for x p) (sym ready_edition); limited = ready_limited; room = rw ready_header r.room }

  -- ---- room

  -- its numbers are the lists' lengths
  slots_counted : h.slots ≡ length l.states
  unfolding columns_header
  slots_counted = ap (λ (k : Header). k.slots) r.header

  endpoints_counted : h.endpoints ≡ length l.weights
  unfolding columns_header
  endpoints_counted = ap (λ (k : Header). k.endpoints) r.header

  links_counted : h.links ≡ length l.links
  unfolding columns_header
  links_counted = ap (λ (k : Header). k.links) r.header

  services_counted : h.service_links ≡ length l.service_links
  unfolding columns_header
  services_counted = ap (λ (k : Header). k.service_links) r.header

  states_small : (i : ℕ) → i < length l.states → get_or l.states i 0 ≤ state_max
  unfolding slot_of item header_for picture_from slot_from
  states_small i s =
      let here = get_d_zip slot_from l.states l.near 0 false (slot_of p 0) i s (omega (arith, right.slots_even)) in
      let long = length_zip slot_from l.states l.near right.slots_even in
      rw here at (right.states.state (suc i) (suc-le-suc zero-le) (omega (arith, long)))

  -- an end of a link, as it stands in the lists
  link_end : (pairs : List (List ℕ)) (f : Link → ℕ) {m k : ℕ} → ((i : ℕ) → i < length (map link_from pairs) → f (get_or (map link_from pairs) i no_link) ≤ m) → m < k
      → (i : ℕ) → i < length pairs → f (link_from (get_or pairs i [])) < k
  unfolding link_from
  link_end pairs f {m} {k} most small i s =
      let named = rw (get_or-map link_from pairs i []) at (most i (simp length-map s)) in
      omega (arith, named)

  slots_small : (header_from l).slots < 2 ^ e.location_bits
  slots_small = rw (← ready_header) (omega (arith, (widths ready_limited.known).slots_fit, ready_limited.slots))

  -- where the rows of each list end, the next list starts
  pub slots_to : slots_at h.edition + length l.states * sum slot_widths ≡ endpoints_at h
  unfolding endpoints_at
  slots_to = ap (λ (n : ℕ). slots_at e + n * sum slot_widths) (sym slots_counted)

  pub endpoints_to : endpoints_at h + length l.weights * sum endpoint_widths ≡ links_at h
  unfolding links_at
  endpoints_to = ap (λ (n : ℕ). endpoints_at h + n * sum endpoint_widths) (sym endpoints_counted)

  pub links_to : links_at h + length l.links * (h.edition.location_bits + h.edition.location_bits) ≡ service_links_at h
  unfolding service_links_at link_widths sum
  links_to = rw (links_counted, add-zero)

  pub services_to : service_links_at h + length l.service_links * (h.edition.location_bits + 8) ≡ end_at h
  unfolding end_at service_link_widths sum
  services_to = rw services_counted

  -- rows that end before the picture does have room in a buffer that is as long
  module _ {mid : List ℕ} (same : length mid ≡ length buf) where
    pub header_ready : HeaderFits h mid
    header_ready =
        let o = ordered h ready_limited in
        header_room ready_makes same (rw ready_header (header_fits p (known_for l.edition) right.sizes (unfold picture_from in right.near_limit_lem) right.counts)) (omega (arith, slots_to, o))

    module _ {from : Tail} where
      pub slots_ready : from.at ≡ slots_at h.edition → SlotsFit from l.states l.near mid
      slots_ready at =
          let o = ordered h ready_limited in
          record { even = right.slots_even; state = states_small; room = part_room ready_makes same (omega (arith, at, slots_to, o)) }

      pub endpoints_ready : from.at ≡ endpoints_at h → EndpointsFit from l.weights l.protected mid
      endpoints_ready at =
          let o = ordered h ready_limited in
          record { even = right.endpoints_even; room = part_room ready_makes same (omega (arith, at, endpoints_to, o)) }

      pub links_ready : from.at ≡ links_at h → LinksFit from h.edition.location_bits h.edition.location_bits l.links mid
      unfolding picture_from
      links_ready at =
          let o = ordered h ready_limited in
          record {
            wide = omega (arith, (few h ready_limited).bits);
            start = link_end l.links (λ k. k.from) right.links.from slots_small;
            end = link_end l.links (λ k. k.to) right.links.to slots_small;
            room = part_room ready_makes same (omega (arith, at, links_to, o));
          }

      pub services_ready : from.at ≡ service_links_at h → LinksFit from h.edition.location_bits 8 l.service_links mid
      unfolding picture_from
      services_ready at =
          record {
            wide = omega (arith, (few h ready_limited).bits);
            start = link_end l.service_links (λ k. k.from) right.service_links.location slots_small;
            end = link_end l.service_links (λ k. k.to) right.service_links.endpoint_most (omega (arith, right.counts.endpoints_most));
            room = part_room ready_makes same (omega (arith, at, services_to));
          }

  -- ---- the parts one behind the other, and the fill

  pub ready_written : {out : List ℕ} → out ≡ picture_bytes h.edition (picture_from l) ++ drop (size_of h) buf → Written l buf out
  unfolding bytes_for size_for
  ready_written w = w ∙ ap₂ (λ (x : Edition) (k : Header). picture_bytes x p ++ drop (size_of k) buf) ready_edition ready_header
