-- Writing and reading, one after the other: what is written reads back to the same lists, an accepted picture, read and written, yields its
-- own bytes, and a refusal leaves the buffer. Assumes nothing.
use mathlib.Core.Path.{◌≡◌, refl, sym, ap, ap₂, ◌∙◌}
use mathlib.Core.Logic.{◌≢◌}
use mathlib.Core.Bool.{false}
use mathlib.Core.List.{List, [], ◌∷◌, append-nil, map-id}
use Prim.Native.Nat.{ℕ, ◌+◌, ◌/◌, ◌^◌, ◌≤◌, ◌<◌}
use native.Mathlib.Omega.{arith}
use borrow.Author.Tests.{ne_eqb}
use lib.ListN.{length, drop, length-map}
use lib.Seq.{take_at, drop-length}
use Rattle.bits.proofs.Reading.{field_at_lt}
use Rattle.lists.proofs.Picks.{map_back}
use Rattle.lists.proofs.Zips.{length_zip, get_d_zip, map_zip_first, map_zip_second, zip_columns}
use Rattle.packing.specs.Packing.{Bytes}
use Rattle.packing.specs.Holding.{span, Holds}
use Rattle.packing.proofs.Fields.{holds_fit}
use Rattle.packing.proofs.Packed.{length_packed, packed_fill, packed_holds}
use Rattle.packing.proofs.Written.{held_packed}
use Rattle.picture.specs.declared.Edition.{Edition}
use Rattle.picture.specs.declared.Header.{Header}
use Rattle.picture.specs.Layout.{edition_for, edition_number, edition_of, header_widths, field_in, header_bytes, endpoints_at, links_at, service_links_at, end_at, size_of}
use Rattle.picture.specs.Picture.{Picture, endpoint_of, header_in, header_of, picture_of, picture_with}
use Rattle.picture.specs.Faults.{picture_fault}
use Rattle.picture.specs.Rules.{no_link, Ends}
use Rattle.picture.proofs.Editions.{known_for, known_number, widths, header_least}
use Rattle.picture.proofs.Kept.{Kept}
use Rattle.picture.proofs.Accepted.{accepted_kept, kept_accepted}
use Rattle.write.specs.Columns.{Lists, Typed, slot_from, endpoint_from, link_from, pair_of, picture_from, header_for, lists_of, lists_in}
use Rattle.write.specs.Fields.{picture_fields, picture_bytes}
use Rattle.write.specs.Rules.{size_for}
use Rattle.write.specs.Faults.{write_fault}
use Rattle.picture.specs.Refusals.{answer_of, answer_numbers}
use Rattle.write.specs.Answers.{writing, filled, bytes_for, written_bytes}
use Rattle.write.specs.Trips.{written_picture, ReadsBack, WritesBack}
use Rattle.write.proofs.Right.{edition_in, header_from, Right}
use Rattle.write.proofs.Fields.{span_picture, length_picture, Proper, picture_fits}
use Rattle.write.proofs.Judged.{write_right, right_write}
use Rattle.write.proofs.Reading.{Says, holds_picture, header_kept, accepted_held}

-- ---- from lists to a picture and back

-- two numbers are the pair of their link
pair_made : (l : List ℕ) → length l ≡ 2 → pair_of (link_from l) ≡ l
unfolding pair_of link_from
pair_made [] e = absurd (omega arith)
pair_made (x ∷ []) e = absurd (omega arith)
pair_made (x ∷ y ∷ []) e = refl
pair_made (x ∷ y ∷ z ∷ l) e = absurd (omega arith)

lists_made : (l : Lists) → Typed l → length l.states ≡ length l.near → length l.weights ≡ length l.protected → lists_of l.edition (picture_from l) ≡ l
unfolding lists_of picture_from slot_from endpoint_from
lists_made l t n d =
    let ss = map_zip_first slot_from (λ s. s.state) (λ x. x) (λ x y. refl) l.states l.near n ∙ map-id l.states in
    let ns = map_zip_second slot_from (λ s. s.near) (λ x. x) (λ x y. refl) l.states l.near n ∙ map-id l.near in
    let ws = map_zip_first endpoint_from (λ c. c.weight) (λ x. x) (λ x y. refl) l.weights l.protected d ∙ map-id l.weights in
    let ps = map_zip_second endpoint_from (λ c. c.protected) (λ x. x) (λ x y. refl) l.weights l.protected d ∙ map-id l.protected in
    let ls = map_back [] link_from pair_of l.links (λ i s. pair_made _ (t.link i s)) in
    let vs = map_back [] link_from pair_of l.service_links (λ i s. pair_made _ (t.service_link i s)) in
    λ i. record { edition = l.edition; block_size = l.block_size; near_limit = l.near_limit; states = ss i; near = ns i; weights = ws i; protected = ps i; links = ls i; service_links = vs i }

picture_made : (k : ℕ) (p : Picture) → picture_from (lists_of k p) ≡ p
unfolding lists_of picture_from slot_from endpoint_from link_from pair_of
picture_made k p =
    let ss = zip_columns slot_from (λ s. s.state) (λ s. s.near) (λ s. refl) p.slots in
    let cs = zip_columns endpoint_from (λ c. c.weight) (λ c. c.protected) (λ c. refl) p.endpoints in
    let ls = map_back no_link pair_of link_from p.links (λ i s. refl) in
    let vs = map_back no_link pair_of link_from p.service_links (λ i s. refl) in
    λ i. record { block_size = p.block_size; near_limit = p.near_limit; slots = ss i; endpoints = cs i; links = ls i; service_links = vs i }

-- ---- what is written is accepted, and says the picture

module _ {e : Edition} {p : Picture} (r : Proper e p) where
  abbrev bs : List ℕ
  bs = picture_bytes e p

  says : Says e p bs
  unfolding picture_bytes
  says = holds_picture e p bs (packed_holds (picture_fields e p) (picture_fits r))

  edition_back : edition_of bs ≡ e
  edition_back = ap edition_for says.edition ∙ known_number r.known

  pub header_back : header_of (picture_bytes e p) ≡ header_for e p
  unfolding header_of
  header_back = ap (λ (x : Edition). header_in x bs) edition_back ∙ says.header

  pub picture_back : picture_of (picture_bytes e p) ≡ p
  unfolding picture_of
  picture_back = ap (λ (h : Header). picture_with h bs) header_back ∙ says.picture

  ends : Ends (header_for e p) bs
  unfolding picture_bytes size_of
  ends = record { fill = λ i a b. packed_fill (picture_fields e p) i (omega (arith, span_picture e p)) (omega (arith, span_picture e p)); end = length_picture e p }

  -- no picture is shorter than its header
  header_room : header_bytes e ≤ length bs
  unfolding size_of end_at service_links_at links_at endpoints_at header_for
  header_room = omega (arith, length_picture e p, (widths r.known).whole)

  pub picture_accepted : picture_fault (picture_bytes e p) ≡ 0
  picture_accepted =
      kept_accepted bs
      (record {
        header = omega (arith, header_room, header_least r.known);
        edition = says.edition ∙ ap (λ (x : Edition). x.number) (sym edition_back);
        whole = rw edition_back header_room;
        sizes = rw header_back r.sizes;
        counts = rw header_back r.counts;
        long = rw header_back (omega (arith, length_picture e p));
        states = rw (header_back, picture_back) r.states;
        links = rw (header_back, picture_back) r.links;
        service_links = rw (header_back, picture_back) r.service_links;
        ends = rw header_back ends;
      })

-- ---- the picture of lists

module _ (l : Lists) (t : Typed l) (r : Right l) where
  proper : Proper (edition_in l) (picture_from l)
  proper =
      record {
        known = known_for l.edition;
        sizes = r.sizes;
        near_limit_lem = unfold picture_from in r.near_limit_lem;
        counts = r.counts;
        weights = λ i s. unfold picture_from endpoint_from in
            let m : i < length l.weights = omega (arith, length_zip endpoint_from l.weights l.protected r.endpoints_even) in
            rw (get_d_zip endpoint_from l.weights l.protected 0 false (endpoint_of (picture_from l) 0) i m (omega (arith, r.endpoints_even))) (t.weight i);
        states = r.states;
        links = r.links;
        service_links = r.service_links;
      }

  reads_back : ReadsBack l (picture_bytes (edition_in l) (picture_from l))
  unfolding lists_in
  reads_back =
      let told = ap (λ (x : Edition). x.number) (edition_back proper) ∙ sym r.edition in
      record {
        accepted = picture_accepted proper;
        header = header_back proper;
        lists = ap₂ lists_of told (picture_back proper) ∙ lists_made l t r.slots_even r.endpoints_even;
      }

pub written_reads : (l : Lists) (buf : List ℕ) → Typed l → write_fault l buf ≡ 0 → ReadsBack l (written_picture l buf)
unfolding written_picture written_bytes filled bytes_for size_for
written_reads l buf t z =
    rw (z, take_at (picture_bytes (edition_in l) (picture_from l)) (drop (size_for l) buf) (size_for l) (length_picture (edition_in l) (picture_from l)))
    (reads_back l t (write_right l buf z).0)

-- ---- an accepted picture, read and written

module _ (bs : List ℕ) (z : picture_fault bs ≡ 0) where
  abbrev l : Lists
  l = lists_in bs

  kept : Kept bs
  kept = accepted_kept bs z

  edition_same : edition_in l ≡ edition_of bs
  unfolding lists_in lists_of
  edition_same = known_number (known_for (edition_number bs))

  picture_same : picture_from l ≡ picture_of bs
  unfolding lists_in
  picture_same = picture_made _ (picture_of bs)

  header_same : header_from l ≡ header_of bs
  unfolding picture_of header_of header_in
  header_same = ap₂ header_for edition_same picture_same ∙ header_kept (header_of bs) bs

  -- κ was read from as many bits
  near_small : l.near_limit < 2 ^ (edition_of bs).location_bits
  unfolding lists_in lists_of picture_of picture_with header_of header_in field_in header_widths
  near_small = field_at_lt bs _ _

  right : Right l
  right =
      record {
        edition = unfold lists_in lists_of in ap (λ (x : Edition). x.number) (sym edition_same);
        slots_even = unfold lists_in lists_of in simp length-map;
        sizes = rw header_same kept.sizes;
        near_limit_lem = rw edition_same near_small;
        endpoints_even = unfold lists_in lists_of in simp length-map;
        counts = rw header_same kept.counts;
        states = rw (header_same, picture_same) kept.states;
        links = rw (header_same, picture_same) kept.links;
        service_links = rw (header_same, picture_same) kept.service_links;
      }

  size_same : size_for l ≡ length bs
  unfolding size_for
  size_same = rw header_same (sym kept.ends.end)

  own_bytes : Bytes bs → picture_bytes (edition_in l) (picture_from l) ≡ bs
  unfolding picture_bytes size_for
  own_bytes b =
      let fs = picture_fields (edition_in l) (picture_from l) in
      let held : Holds bs 0 fs = rw (edition_same, picture_same) (accepted_held bs z) in
      let size : (span fs + 7) / 8 ≡ length bs = sym (length_packed fs) ∙ length_picture (edition_in l) (picture_from l) ∙ size_same in
      let ends = span_picture (edition_in l) (picture_from l) ∙ ap end_at header_same in
      let whole = held_packed bs bs fs (length bs) (holds_fit bs 0 fs held) size (omega arith) refl b b held (λ i s m. kept.ends.fill i (omega arith) (omega (arith, kept.ends.end))) (λ i s. refl) in
      sym (whole ∙ rw (drop-length bs, append-nil))

pub read_writes : (bs buf : List ℕ) → Bytes bs → picture_fault bs ≡ 0 → length bs ≤ length buf → WritesBack bs buf
unfolding writing answer_of answer_numbers written_bytes filled bytes_for
read_writes bs buf b z m =
    let w : write_fault (lists_in bs) buf ≡ 0 = right_write (lists_in bs) buf (right bs z) (omega (arith, size_same bs z)) in
    record { number = rw (w, size_same bs z); bytes = rw (w, size_same bs z, own_bytes bs z b) }

-- ---- a refusal

pub refused_stays : (l : Lists) (buf : List ℕ) → write_fault l buf ≢ 0 → written_bytes l buf ≡ buf
unfolding written_bytes filled
refused_stays l buf n = rw (ne_eqb (write_fault l buf) 0 n)
