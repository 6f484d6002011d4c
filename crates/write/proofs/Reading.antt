-- Bytes that hold a picture's fields say that picture, and accepted bytes hold the fields of what they say. Assumes nothing.
use mathlib.Core.Path.{◌≡◌, refl, sym, ap, ◌∙◌}
use mathlib.Core.Bool.{Bool, true, false}
use mathlib.Core.List.{List, [], ◌∷◌, map}
use Prim.Native.Nat.{ℕ, zero, suc, ◌+◌, ◌*◌, ◌<◌}
use native.Mathlib.Omega.{arith}
use native.Mathlib.Nat.{zero-add}
use lib.Dec.{eqb, lit<}
use lib.ListN.{length, get_or}
use Rattle.bits.proofs.Reading.{field_at_lt}
use Rattle.lists.specs.Lists.{range, on, sum, flat}
use Rattle.lists.proofs.Ranges.{get_d_map_range, range_made}
use Rattle.packing.specs.Packing.{Field, fields_of}
use Rattle.packing.specs.Holding.{span, Holds}
use Rattle.packing.proofs.Fields.{holds_append, append_holds, holds_flat, flat_holds}
use Rattle.picture.specs.declared.Edition.{Edition}
use Rattle.picture.specs.declared.Header.{Header}
use Rattle.picture.specs.Layout.{edition_number, edition_of, header_widths, slot_widths, endpoint_widths, link_widths, service_link_widths, field_in, slots_at, endpoints_at, links_at, service_links_at}
use Rattle.picture.specs.Picture.{Picture, header_in, slot_at, endpoint_at, link_at, rows, picture_with, header_of, picture_of}
use Rattle.picture.specs.Faults.{picture_fault}
use Rattle.picture.specs.Answers.{header_values}
use Rattle.picture.proofs.Starts.{length_rows, row_at, slots_length, endpoints_length, links_length, services_length}
use Rattle.picture.proofs.Fields.{fields_read, read_fields}
use Rattle.picture.proofs.Accepted.{accepted_kept}
use Rattle.write.specs.Columns.{header_for}
use Rattle.write.specs.Fields.{header_fields, slot_fields, endpoint_fields, link_fields, picture_fields}
use Rattle.write.proofs.Fields.{header_of_lem, slots_of, endpoints_of, links_of, services_of, slot_span, endpoint_span, link_span, header_ends, slots_end, endpoints_end, links_end}

-- ---- a bit that says yes or no

flag_kept : (b : Bool) → eqb (on b 1) 1 ≡ b
unfolding on
flag_kept true = refl
flag_kept false = refl

pub flag_read : (x : ℕ) → x < 2 → on (eqb x 1) 1 ≡ x
unfolding on
flag_read zero h = refl
flag_read (suc zero) h = refl
flag_read (suc (suc x)) h = absurd (omega arith)

-- ---- a row of fields: what is held is said, and what is said is held

record Row {A : Type 0} (bs : List ℕ) (g : A → List Field) (w : ℕ) (f : ℕ → A) : Type 0 where
  pub wide : (r : A) → span (g r) ≡ w
  pub said : (q : ℕ) (r : A) → Holds bs q (g r) → f q ≡ r
  pub held : (q : ℕ) → Holds bs q (g (f q))

fields_held : (bs ws : List ℕ) (q : ℕ) → Holds bs q (fields_of ws (map (field_in bs ws q) (range 0 (length ws))))
fields_held bs ws q = read_fields bs ws _ q (λ k s. sym (get_d_map_range (field_in bs ws q) 0 0 (length ws) k s ∙ ap (field_in bs ws q) (zero-add k)))

module _ (bs : List ℕ) (a b : ℕ) where
  pair_said : (q x y : ℕ) → Holds bs q (fields_of (a ∷ b ∷ []) (x ∷ y ∷ [])) → (field_in bs (a ∷ b ∷ []) q 0 ≡ x) × (field_in bs (a ∷ b ∷ []) q 1 ≡ y)
  pair_said q x y h = (fields_read bs (a ∷ b ∷ []) (x ∷ y ∷ []) q h 0 (lit< tt) (lit< tt), fields_read bs (a ∷ b ∷ []) (x ∷ y ∷ []) q h 1 (lit< tt) (lit< tt))

  link_row : Row bs (link_fields (a ∷ b ∷ [])) (sum (a ∷ b ∷ [])) (link_at (a ∷ b ∷ []) bs)
  unfolding link_fields link_at range
  link_row =
      record {
        wide = link_span a b;
        said = λ q l h. let r = pair_said q l.from l.to h in λ i. record { from = r.0 i; to = r.1 i };
        held = fields_held bs (a ∷ b ∷ []);
      }

-- the second field says yes or no
module _ (bs : List ℕ) (a : ℕ) where
  flagged_said : (q x : ℕ) (b : Bool) → Holds bs q (fields_of (a ∷ 1 ∷ []) (x ∷ on b 1 ∷ [])) → (field_in bs (a ∷ 1 ∷ []) q 0 ≡ x) × (eqb (field_in bs (a ∷ 1 ∷ []) q 1) 1 ≡ b)
  flagged_said q x b h = let r = pair_said bs a 1 q x (on b 1) h in (r.0, ap (λ (y : ℕ). eqb y 1) r.1 ∙ flag_kept b)

  flagged_held : (q : ℕ) → Holds bs q (fields_of (a ∷ 1 ∷ []) (field_in bs (a ∷ 1 ∷ []) q 0 ∷ on (eqb (field_in bs (a ∷ 1 ∷ []) q 1) 1) 1 ∷ []))
  unfolding range
  flagged_held q = rw (flag_read (field_in bs (a ∷ 1 ∷ []) q 1) (unfold field_in in field_at_lt bs _ 1)) (fields_held bs (a ∷ 1 ∷ []) q)

slot_row : (bs : List ℕ) → Row bs slot_fields (sum slot_widths) (slot_at bs)
unfolding slot_fields slot_at slot_widths
slot_row bs =
    record {
      wide = slot_span;
      said = λ q s h. let r = flagged_said bs 2 q s.state s.near h in λ i. record { state = r.0 i; near = r.1 i };
      held = flagged_held bs 2;
    }

endpoint_row : (bs : List ℕ) → Row bs endpoint_fields (sum endpoint_widths) (endpoint_at bs)
unfolding endpoint_fields endpoint_at endpoint_widths
endpoint_row bs =
    record {
      wide = endpoint_span;
      said = λ q c h. let r = flagged_said bs 16 q c.weight c.protected h in λ i. record { weight = r.0 i; protected = r.1 i };
      held = flagged_held bs 16;
    }

-- ---- rows one after the other

module _ {A : Type 0} {g : A → List Field} {w : ℕ} {f : ℕ → A} {bs : List ℕ} (row : Row bs g w f) where
  rows_said : (q : ℕ) (rs : List A) → Holds bs q (flat (map g rs)) → rows f q w (length rs) ≡ rs
  unfolding rows
  rows_said q rs h = range_made (f 0) (λ i. f (q + i * w)) rs (λ i s. row.said (q + i * w) (get_or rs i (f 0)) (holds_flat (f 0) g w row.wide bs q rs h i s))

  rows_held : (q k : ℕ) → Holds bs q (flat (map g (rows f q w k)))
  rows_held q k = flat_holds (f 0) g w row.wide bs q (rows f q w k) (λ i s. rw (row_at f (f 0) q w k i (rw length_rows at s)) (row.held (q + i * w)))

-- ---- the parts of a picture, each at its place

record Parts (e : Edition) (h : Header) (p : Picture) (bs : List ℕ) : Type 0 where
  pub header : Holds bs 0 (header_fields h)
  pub slots : Holds bs (slots_at e) (slots_of e p)
  pub endpoints : Holds bs (endpoints_at h) (endpoints_of e p)
  pub links : Holds bs (links_at h) (links_of e p)
  pub services : Holds bs (service_links_at h) (services_of e p)

module _ (e : Edition) (p : Picture) (bs : List ℕ) where
  held_parts : Holds bs 0 (picture_fields e p) → Parts e (header_for e p) p bs
  unfolding picture_fields
  held_parts h =
      let a = holds_append bs 0 (header_of_lem e p) _ h in
      let b = holds_append bs (slots_at e) (slots_of e p) _ (rw (header_ends e p) at a.1) in
      let c = holds_append bs (endpoints_at (header_for e p)) (endpoints_of e p) _ (rw (slots_end e p) at b.1) in
      let d = holds_append bs (links_at (header_for e p)) (links_of e p) _ (rw (endpoints_end e p) at c.1) in
      record { header = a.0; slots = b.0; endpoints = c.0; links = d.0; services = rw (links_end e p) at d.1 }

  parts_held : Parts e (header_for e p) p bs → Holds bs 0 (picture_fields e p)
  unfolding picture_fields
  parts_held h =
      append_holds bs 0 (header_of_lem e p) _ h.header (rw (header_ends e p)
      (append_holds bs (slots_at e) (slots_of e p) _ h.slots (rw (slots_end e p)
      (append_holds bs (endpoints_at (header_for e p)) (endpoints_of e p) _ h.endpoints (rw (endpoints_end e p)
      (append_holds bs (links_at (header_for e p)) (links_of e p) (services_of e p) h.links (rw (links_end e p) h.services)))))))

-- ---- bytes that hold a picture's fields say the picture

-- the number of the edition is the first field of any header
edition_first : (e : Edition) (bs : List ℕ) → edition_number bs ≡ field_in bs (header_widths e) 0 0
unfolding edition_number field_in header_widths sum
edition_first e bs = refl

pub record Says (e : Edition) (p : Picture) (bs : List ℕ) : Type 0 where
  pub edition : edition_number bs ≡ e.number
  pub header : header_in e bs ≡ header_for e p
  pub picture : picture_with (header_for e p) bs ≡ p

module _ (e : Edition) (p : Picture) (bs : List ℕ) (held : Holds bs 0 (picture_fields e p)) where
  parts : Parts e (header_for e p) p bs
  parts = held_parts e p bs held

  header_read : (k : ℕ) → k < 7 → field_in bs (header_widths e) 0 k ≡ get_or (header_values (header_for e p)) k 0
  unfolding header_fields header_widths header_values header_for
  header_read k s = fields_read bs (header_widths e) _ 0 parts.header k s s

  header_said : header_in e bs ≡ header_for e p
  unfolding header_in header_values header_for
  header_said i =
      record {
        edition = e;
        block_size = header_read 1 (lit< tt) i;
        slots = header_read 2 (lit< tt) i;
        near_limit = header_read 3 (lit< tt) i;
        endpoints = header_read 4 (lit< tt) i;
        links = header_read 5 (lit< tt) i;
        service_links = header_read 6 (lit< tt) i;
      }

  picture_said : picture_with (header_for e p) bs ≡ p
  unfolding picture_with header_for link_widths service_link_widths
  picture_said =
      let ss = rows_said (slot_row bs) _ p.slots parts.slots in
      let cs = rows_said (endpoint_row bs) _ p.endpoints parts.endpoints in
      let ls = rows_said (link_row bs _ _) _ p.links parts.links in
      let vs = rows_said (link_row bs _ _) _ p.service_links parts.services in
      λ i. record { block_size = p.block_size; near_limit = p.near_limit; slots = ss i; endpoints = cs i; links = ls i; service_links = vs i }

  pub holds_picture : Says e p bs
  unfolding header_values header_for
  holds_picture = record { edition = edition_first e bs ∙ header_read 0 (lit< tt); header = header_said; picture = picture_said }

-- ---- and the other way

-- the header of what the bytes say under a header
pub header_kept : (h : Header) (bs : List ℕ) → header_for h.edition (picture_with h bs) ≡ h
unfolding header_for picture_with
header_kept h bs =
    let ss = slots_length h bs in
    let cs = endpoints_length h bs in
    let ls = links_length h bs in
    let vs = services_length h bs in
    λ i. record { edition = h.edition; block_size = h.block_size; slots = ss i; near_limit = h.near_limit; endpoints = cs i; links = ls i; service_links = vs i }

said_parts : (e : Edition) (bs : List ℕ) → edition_number bs ≡ e.number → Parts e (header_in e bs) (picture_with (header_in e bs) bs) bs
unfolding picture_with header_fields header_in header_values header_widths link_widths service_link_widths range
said_parts e bs n =
    record {
      header = rw (sym (edition_first e bs) ∙ n) at (fields_held bs (header_widths e) 0);
      slots = rows_held (slot_row bs) _ _;
      endpoints = rows_held (endpoint_row bs) _ _;
      links = rows_held (link_row bs _ _) _ _;
      services = rows_held (link_row bs _ _) _ _;
    }

pub accepted_held : (bs : List ℕ) → picture_fault bs ≡ 0 → Holds bs 0 (picture_fields (edition_of bs) (picture_of bs))
unfolding picture_of header_of header_in
accepted_held bs z =
    let e = edition_of bs in
    parts_held e (picture_of bs) bs (rw (header_kept (header_of bs) bs) (said_parts e bs (accepted_kept bs z).edition))
