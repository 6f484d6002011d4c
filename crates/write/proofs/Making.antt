-- The parts of a picture put one behind the other, over the front of a buffer that has room for it, are its bytes. Assumes nothing.
use mathlib.Core.Path.{◌≡◌, refl, sym, ap, ◌∙◌, subst}
use mathlib.Core.List.{List, [], ◌∷◌, ◌++◌}
use Prim.Native.Nat.{ℕ, ◌+◌, ◌-◌, ◌*◌, ◌≤◌}
use native.Mathlib.Omega.{arith}
use lib.ListN.{length, drop}
use Rattle.bits.specs.Bits.{bit_at}
use Rattle.bits.proofs.Reading.{field_at_zeros}
use Rattle.bits.proofs.Pushing.{flushed_whole}
use Rattle.packing.specs.Packing.{Bytes, fields_of}
use Rattle.packing.specs.Holding.{span, Fit, Holds}
use Rattle.packing.proofs.Fields.{span_append, holds_append, holds_fit}
use Rattle.packing.proofs.Written.{held_packed}
use Rattle.packing.proofs.Putting.{put_behind, put_same}
use Rattle.picture.specs.declared.Edition.{Edition}
use Rattle.picture.specs.declared.Header.{Header}
use Rattle.picture.specs.Layout.{header_widths, slots_at, endpoints_at, links_at, service_links_at, end_at, size_of}
use Rattle.picture.specs.Picture.{Picture}
use Rattle.picture.specs.Inner.{Limited}
use Rattle.picture.specs.Answers.{header_values}
use Rattle.picture.proofs.Editions.{widths}
use Rattle.picture.proofs.Starts.{ordered}
use Rattle.write.specs.Columns.{header_for}
use Rattle.write.specs.Fields.{header_fields, picture_fields, picture_bytes}
use Rattle.write.specs.declared.tail.Tail.{Tail}
use Rattle.write.specs.Tails.{start, LongRoom, Room, Follows, fill_bits, Filled}
use Rattle.write.specs.Inner.{HeaderFits}
use Rattle.write.proofs.Tails.{follows_more}
use Rattle.write.proofs.Fields.{header_of_lem, slots_of, endpoints_of, links_of, services_of, header_span, slots_end, endpoints_end, links_end}
use Rattle.write.proofs.Fields.{services_end, span_picture}

-- a picture with its own header, whose numbers keep their limits, and room for it
pub record Makes (h : Header) (p : Picture) (buf : List ℕ) : Type 0 where
  pub own : h ≡ header_for h.edition p
  pub limited : Limited h
  pub room : size_of h ≤ length buf

module _ {h : Header} {p : Picture} {buf : List ℕ} (m : Makes h p buf) where
  abbrev e : Edition
  e = h.edition

  -- ---- room

  -- the picture ends within the buffer
  pub makes_ends : end_at h ≤ length buf * 8
  unfolding size_of
  makes_ends = omega (arith, m.room)

  -- what ends before the picture does has room in a buffer that is as long
  module _ {mid : List ℕ} (same : length mid ≡ length buf) where
    pub part_room : {from : Tail} {n : ℕ} → from.at + n ≤ end_at h → LongRoom from n mid
    part_room within = record { fits = omega (arith, makes_ends); low = omega (arith, (ordered h m.limited).most) }

    pub header_room : Fit (header_fields h) → slots_at h.edition ≤ end_at h → HeaderFits h mid
    unfolding header_fields header_widths header_values fields_of Fit
    header_room (number, (size, (slots, (near, (endpoints, (links, (services, _))))))) within =
        record {
          room = omega (arith, makes_ends);
          bits = (widths m.limited.known).bits_most;
          number = number;
          block_size = size;
          slots = slots;
          near_limit = near;
          endpoints = endpoints;
          links = links;
          service_links = services;
        }

    pub fill_room : {end : Tail} → end.at ≡ end_at h → Room end (fill_bits end.at) mid
    unfolding size_of fill_bits
    fill_room q = record { fits = omega (arith, m.room); low = omega (arith, (ordered h m.limited).most) }

  -- ---- where each part ends, the next one starts

  next : (f g : Header → ℕ) (n : ℕ) {from to : ℕ} → f (header_for h.edition p) + n ≡ g (header_for h.edition p) → from ≡ f h → to ≡ from + n
      → to ≡ g h
  next f g n q at end = end ∙ ap (λ (k : ℕ). k + n) at ∙ subst (λ (k : Header). f k + n ≡ g k) (sym m.own) q

  pub header_place : {old new : List ℕ} {to : Tail} → Follows old start (header_fields h) new to → to.at ≡ slots_at h.edition
  unfolding slots_at
  header_place f = omega (arith, f.end, header_span h)

  module _ {old new : List ℕ} {from to : Tail} where
    pub slots_place : from.at ≡ slots_at h.edition → Follows old from (slots_of h.edition p) new to → to.at ≡ endpoints_at h
    slots_place at f = next (λ _. slots_at e) endpoints_at _ (slots_end e p) at f.end

    pub endpoints_place : from.at ≡ endpoints_at h → Follows old from (endpoints_of h.edition p) new to → to.at ≡ links_at h
    endpoints_place at f = next endpoints_at links_at _ (endpoints_end e p) at f.end

    pub links_place : from.at ≡ links_at h → Follows old from (links_of h.edition p) new to → to.at ≡ service_links_at h
    links_place at f = next links_at service_links_at _ (links_end e p) at f.end

    pub services_place : from.at ≡ service_links_at h → Follows old from (services_of h.edition p) new to → to.at ≡ end_at h
    services_place at f = next service_links_at end_at _ (services_end e p) at f.end

  -- ---- the parts one behind the other, and the fill

  pub picture_made : {a b c d f out : List ℕ} {header slots endpoints links end : Tail} → Follows buf start (header_fields h) a header
      → Follows a header (slots_of h.edition p) b slots
      → Follows b slots (endpoints_of h.edition p) c endpoints
      → Follows c endpoints (links_of h.edition p) d links
      → Follows d links (services_of h.edition p) f end
      → Filled f end out → Bytes buf → Bytes out → out ≡ picture_bytes h.edition p ++ drop (size_of h) buf
  unfolding fields_of fill_bits picture_fields picture_bytes size_of span Holds
  picture_made {out = out} {end = end} header slots endpoints links services fill old new =
      let fs = picture_fields e p in
      let own : header_fields h ≡ header_of_lem e p = ap header_fields m.own in
      let parts = follows_more (rw own at header) (follows_more slots (follows_more endpoints (follows_more links services))) in
      let long : span fs ≡ end_at h = span_picture e p ∙ ap end_at (sym m.own) in
      let all = put_behind 0 fs _ (rw (flushed_whole buf 0 0 refl) at parts.put) (put_same fill (omega (arith, parts.end)) refl) in
      let held = holds_append out 0 fs _ all.holds in
      held_packed buf out fs (size_of h) (holds_fit out 0 fs held.0) (omega (arith, long)) m.room all.long new old held.0
      (λ i s t.
      ap (bit_at out) (omega arith) ∙ field_at_zeros out (0 + span fs) (fill_bits end.at) held.1.0 (i - span fs) (omega (arith, long, parts.end)))
      (λ i s. all.after i (omega (arith, long, parts.end, span_append fs (fields_of (fill_bits end.at ∷ []) (0 ∷ [])))))
