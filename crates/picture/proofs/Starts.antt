-- Where the fields of a picture stand in its bytes. Assumes nothing.
use mathlib.Core.Path.{◌≡◌, sym, ap, ◌∙◌}
use mathlib.Core.Bool.{false}
use mathlib.Core.List.{List, [], ◌∷◌}
use Prim.Native.Nat.{ℕ, zero, suc, ◌+◌, ◌-◌, ◌*◌, ◌/◌, ◌%◌, ◌^◌, ◌≤◌, ◌<◌}
use native.Mathlib.Omega.{arith}
use native.Mathlib.Nat.{add-zero, zero-add, not-suc-le-zero, mul-le-mul_right}
use native.Mathlib.Numerals.{add-one}
use lib.ListN.{length, get_or, length-map, get_or-eq_default}
use lib.Pow.{high, low}
use Rattle.bits.specs.Bits.{field_at}
use Rattle.bits.proofs.Reading.{field_at_lt, field_at_join}
use Rattle.lists.specs.Lists.{range, item, sum}
use Rattle.lists.proofs.Ranges.{length_range, get_d_map_range, map_range_same}
use Rattle.picture.specs.declared.Edition.{Edition}
use Rattle.picture.specs.declared.Header.{Header}
use Rattle.picture.specs.declared.Link.{Link}
use Rattle.picture.specs.Layout.{edition2, endpoints_max, links_max, picture_max, slot_widths, endpoint_widths, link_widths, service_link_widths, header_widths, field_in, slots_at, endpoints_at, links_at, service_links_at, end_at, size_of}
use Rattle.picture.specs.Picture.{Picture, slot_at, endpoint_at, link_at, rows, picture_with, slot_of, endpoint_of}
use Rattle.picture.specs.Rules.{no_link}
use Rattle.picture.specs.Inner.{Limited}
use Rattle.picture.proofs.Editions.{widths}

-- ---- the first two fields of a run of fields

pub field_first : (bs : List ℕ) (a : ℕ) (ws : List ℕ) (p : ℕ) → field_in bs (a ∷ ws) p 0 ≡ field_at bs p a
unfolding field_in sum
field_first bs a ws p = ap (λ (q : ℕ). field_at bs q a) (add-zero p)

pub field_second : (bs : List ℕ) (a b : ℕ) (ws : List ℕ) (p : ℕ) → field_in bs (a ∷ b ∷ ws) p 1 ≡ field_at bs (p + a) b
unfolding field_in sum
field_second bs a b ws p = ap (λ (q : ℕ). field_at bs (p + q) b) (add-zero a)

-- two adjacent fields, read as one of their joint width, are its two halves
pub link_halves : (bs : List ℕ) (a b p : ℕ) {v : ℕ} → v ≡ field_at bs p (a + b) → ◌≡◌ {A = Link} (record { from = v / 2 ^ b; to = v % 2 ^ b }) (link_at (a ∷ b ∷ []) bs p)
unfolding link_at
link_halves bs a b p {v} e =
    let joined : v ≡ field_at bs p a * 2 ^ b + field_at bs (p + a) b = e ∙ field_at_join bs p a b in
    let first : v / 2 ^ b ≡ field_in bs (a ∷ b ∷ []) p 0 = ap (λ (x : ℕ). x / 2 ^ b) joined ∙ high (field_at bs p a) b (field_at_lt bs (p + a) b) ∙ sym (field_first bs a (b ∷ []) p) in
    let second : v % 2 ^ b ≡ field_in bs (a ∷ b ∷ []) p 1 = ap (λ (x : ℕ). x % 2 ^ b) joined ∙ low (field_at bs p a) b (field_at_lt bs (p + a) b) ∙ sym (field_second bs a b [] p) in
    λ i. record { from = first i; to = second i }

-- ---- rows

pub length_rows : {A : Type 0} (f : ℕ → A) (p w k : ℕ) → length (rows f p w k) ≡ k
unfolding rows
length_rows f p w k = length-map (range 0 k) (λ i. f (p + i * w)) ∙ length_range 0 k

pub row_at : {A : Type 0} (f : ℕ → A) (d : A) (p w k i : ℕ) → i < k → get_or (rows f p w k) i d ≡ f (p + i * w)
unfolding rows
row_at f d p w k i h = get_d_map_range (λ i. f (p + i * w)) d 0 k i h ∙ ap (λ (j : ℕ). f (p + j * w)) (zero-add i)

-- rows that agree place by place
pub rows_same : {A : Type 0} (f g : ℕ → A) (p w k : ℕ) → ((i : ℕ) → i < k → f (p + i * w) ≡ g (p + i * w)) → rows f p w k ≡ rows g p w k
unfolding rows
rows_same f g p w k h = map_range_same (λ i. f (p + i * w)) (λ i. g (p + i * w)) 0 0 k (λ i s. rw zero-add (h i s))

-- rows that are counted from 1
pub item_row : {A : Type 0} (f : ℕ → A) (d : A) (p w k v : ℕ) → 1 ≤ v → v ≤ k → item (rows f p w k) v d ≡ f (p + (v - 1) * w)
unfolding item
item_row f d p w k zero l h = absurd (not-suc-le-zero l)
item_row f d p w k (suc i) l h = row_at f d p w k i h ∙ ap (λ (j : ℕ). f (p + j * w)) less
  where
    less : i ≡ suc i - 1
    less = omega arith

-- an element counted from 1 is one counted from 0
pub item_next : {A : Type 0} (l : List A) (i : ℕ) (d : A) → item l (i + 1) d ≡ get_or l i d
unfolding item
item_next l i d = rw add-one

-- past the last slot there is nothing to hold
pub slot_past : (p : Picture) (i : ℕ) → length p.slots ≤ i → slot_of p (suc i) ≡ record { state = 2; near = false }
unfolding slot_of item
slot_past p i h = get_or-eq_default p.slots (record { state = 2; near = false }) {n = i} h

module _ (h : Header) (bs : List ℕ) where
  abbrev e : Edition
  e = h.edition

  pub slot_row : (v : ℕ) → 1 ≤ v → v ≤ h.slots → slot_of (picture_with h bs) v ≡ slot_at bs (slots_at e + (v - 1) * sum slot_widths)
  unfolding slot_of picture_with
  slot_row v l m = item_row (slot_at bs) _ (slots_at e) (sum slot_widths) h.slots v l m

  pub endpoint_row : (c : ℕ) → 1 ≤ c → c ≤ h.endpoints → endpoint_of (picture_with h bs) c ≡ endpoint_at bs (endpoints_at h + (c - 1) * sum endpoint_widths)
  unfolding endpoint_of picture_with
  endpoint_row c l m = item_row (endpoint_at bs) _ (endpoints_at h) (sum endpoint_widths) h.endpoints c l m

  pub link_row : (i : ℕ) → i < h.links → get_or (picture_with h bs).links i no_link ≡ link_at (link_widths e) bs (links_at h + i * sum (link_widths e))
  unfolding picture_with
  link_row i l = row_at (link_at (link_widths e) bs) no_link (links_at h) (sum (link_widths e)) h.links i l

  pub service_row : (i : ℕ) → i < h.service_links → get_or (picture_with h bs).service_links i no_link ≡ link_at (service_link_widths e) bs (service_links_at h + i * sum (service_link_widths e))
  unfolding picture_with
  service_row i l = row_at (link_at (service_link_widths e) bs) no_link (service_links_at h) (sum (service_link_widths e)) h.service_links i l

  pub slots_length : length (picture_with h bs).slots ≡ h.slots
  unfolding picture_with
  slots_length = length_rows (slot_at bs) (slots_at e) (sum slot_widths) h.slots

  pub endpoints_length : length (picture_with h bs).endpoints ≡ h.endpoints
  unfolding picture_with
  endpoints_length = length_rows (endpoint_at bs) (endpoints_at h) (sum endpoint_widths) h.endpoints

  pub links_length : length (picture_with h bs).links ≡ h.links
  unfolding picture_with
  links_length = length_rows (link_at (link_widths e) bs) (links_at h) (sum (link_widths e)) h.links

  pub services_length : length (picture_with h bs).service_links ≡ h.service_links
  unfolding picture_with
  services_length = length_rows (link_at (service_link_widths e) bs) (service_links_at h) (sum (service_link_widths e)) h.service_links

-- ---- places are small numbers, in their order

-- what they are sums of: links of either kind take no more than the most of them do in the widest edition
pub record Few (h : Header) : Type 0 where
  pub bits : h.edition.location_bits ≤ edition2.location_bits
  pub start : slots_at h.edition ≤ slots_at edition2
  pub slots : h.slots ≤ edition2.slots_max
  pub endpoints : h.endpoints ≤ endpoints_max
  pub links : h.links * sum (link_widths h.edition) ≤ links_max * sum (link_widths edition2)
  pub services : h.service_links * sum (service_link_widths h.edition) ≤ links_max * sum (service_link_widths edition2)

pub few : (h : Header) → Limited h → Few h
unfolding slots_at header_widths link_widths service_link_widths sum
few h l =
    let w = widths l.known in
    let e = h.edition in
    record {
      bits = w.bits_most;
      start = omega (arith, w.bits_most);
      slots = omega (arith, w.slots_most, l.slots);
      endpoints = l.counts.endpoints_most;
      links = omega (arith, w.bits_most, mul-le-mul_right (sum (link_widths e)) l.counts.links_most);
      services = omega (arith, w.bits_most, mul-le-mul_right (sum (service_link_widths e)) l.counts.service_links_most);
    }

pub record Ordered (h : Header) : Type 0 where
  pub endpoints : endpoints_at h ≤ links_at h
  pub links : links_at h ≤ service_links_at h
  pub services : service_links_at h ≤ end_at h
  pub most : end_at h + 7 < 8 * (picture_max + 1)

pub ordered : (h : Header) → Limited h → Ordered h
unfolding endpoints_at links_at service_links_at end_at slots_at header_widths slot_widths endpoint_widths link_widths service_link_widths sum
ordered h l = record { endpoints = omega arith; links = omega arith; services = omega arith; most = omega (arith, few h l) }

-- the size in bytes has room for every field, and for fewer than eight fill bits
pub record Rounded (h : Header) : Type 0 where
  pub room : end_at h ≤ size_of h * 8
  pub tight : size_of h * 8 ≤ end_at h + 7

pub rounded : (h : Header) → Rounded h
unfolding size_of
rounded h = record { room = omega arith; tight = omega arith }
