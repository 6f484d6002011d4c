-- The fields of a picture that is written: what they take, and that each value fits its width. Assumes nothing.
use mathlib.Core.Path.{◌≡◌, refl, ap, ◌∙◌}
use mathlib.Core.Bool.{Bool}
use mathlib.Core.List.{List, [], ◌∷◌, map}
use Prim.Native.Nat.{ℕ, suc, ◌+◌, ◌/◌, ◌^◌, ◌<◌, suc-le-suc, zero-le}
use native.Mathlib.Omega.{arith}
use native.Mathlib.Nat.{zero-add}
use lib.ListN.{length, get_or}
use Rattle.lists.specs.Lists.{on, sum, item, flat}
use Rattle.lists.proofs.Faults.{on_le}
use Rattle.packing.specs.Packing.{Field, fields_of}
use Rattle.packing.specs.Holding.{span, Fit}
use Rattle.packing.proofs.Fields.{span_append, fit_append, fit_flat, span_flat}
use Rattle.packing.proofs.Packed.{length_packed}
use Rattle.picture.specs.declared.Edition.{Edition}
use Rattle.picture.specs.declared.Header.{Header}
use Rattle.picture.specs.declared.Link.{Link}
use Rattle.picture.specs.Layout.{header_widths, slot_widths, endpoint_widths, link_widths, service_link_widths, slots_at, endpoints_at, links_at, service_links_at, end_at, size_of}
use Rattle.picture.specs.Picture.{Slot, Endpoint, Picture, slot_of, endpoint_of}
use Rattle.picture.specs.Rules.{no_link, Sizes, Counts, States, Links}
use Rattle.picture.specs.Inner.{Known}
use Rattle.picture.specs.Answers.{header_values}
use Rattle.picture.proofs.Editions.{widths}
use Rattle.picture.proofs.Kept.{ServiceLinks}
use Rattle.write.specs.Columns.{header_for}
use Rattle.write.specs.Fields.{header_fields, slot_fields, endpoint_fields, link_fields, picture_fields, picture_bytes}

-- ---- what the fields take

pub header_span : (h : Header) → span (header_fields h) ≡ sum (header_widths h.edition)
unfolding span header_fields fields_of header_widths header_values sum
header_span h = refl

pub slot_span : (s : Slot) → span (slot_fields s) ≡ sum slot_widths
unfolding span slot_fields fields_of slot_widths sum
slot_span s = refl

pub endpoint_span : (c : Endpoint) → span (endpoint_fields c) ≡ sum endpoint_widths
unfolding span endpoint_fields fields_of endpoint_widths sum
endpoint_span c = refl

-- of a link or a service link
pub link_span : (a b : ℕ) (l : Link) → span (link_fields (a ∷ b ∷ []) l) ≡ sum (a ∷ b ∷ [])
unfolding span link_fields fields_of sum
link_span a b l = refl

-- ---- the whole

module _ (e : Edition) (p : Picture) where
  -- its parts: the header, and the rows of the four lists
  abbrev pub header_of_lem : List Field
  header_of_lem = header_fields (header_for e p)

  abbrev pub slots_of : List Field
  slots_of = flat (map slot_fields p.slots)

  abbrev pub endpoints_of : List Field
  endpoints_of = flat (map endpoint_fields p.endpoints)

  abbrev pub links_of : List Field
  links_of = flat (map (link_fields (link_widths e)) p.links)

  abbrev pub services_of : List Field
  services_of = flat (map (link_fields (service_link_widths e)) p.service_links)

  -- where each part ends, the next one starts
  pub header_ends : 0 + span header_of_lem ≡ slots_at e
  unfolding slots_at header_for
  header_ends = zero-add (span header_of_lem) ∙ header_span (header_for e p)

  pub slots_end : slots_at e + span slots_of ≡ endpoints_at (header_for e p)
  unfolding endpoints_at header_for
  slots_end = rw (span_flat slot_fields (sum slot_widths) slot_span p.slots)

  pub endpoints_end : endpoints_at (header_for e p) + span endpoints_of ≡ links_at (header_for e p)
  unfolding links_at header_for
  endpoints_end = rw (span_flat endpoint_fields (sum endpoint_widths) endpoint_span p.endpoints)

  pub links_end : links_at (header_for e p) + span links_of ≡ service_links_at (header_for e p)
  unfolding service_links_at header_for link_widths
  links_end = rw (span_flat (link_fields (link_widths e)) (sum (link_widths e)) (link_span _ _) p.links)

  pub services_end : service_links_at (header_for e p) + span services_of ≡ end_at (header_for e p)
  unfolding end_at header_for service_link_widths
  services_end = rw (span_flat (link_fields (service_link_widths e)) (sum (service_link_widths e)) (link_span _ _) p.service_links)

  pub span_picture : span (picture_fields e p) ≡ end_at (header_for e p)
  unfolding picture_fields
  span_picture = simp span_append (omega (arith, header_ends, slots_end, endpoints_end, links_end, services_end))

  pub length_picture : length (picture_bytes e p) ≡ size_of (header_for e p)
  unfolding picture_bytes size_of
  length_picture = length_packed (picture_fields e p) ∙ ap (λ (n : ℕ). (n + 7) / 8) span_picture

-- ---- each value fits its width

flag_fits : (b : Bool) → on b 1 < 2
flag_fits b = suc-le-suc (on_le b 1 1 (λ _. suc-le-suc zero-le))

-- links whose ends keep their bounds
links_fit : (a b : ℕ) (ls : List Link) → ((i : ℕ) → i < length ls → (get_or ls i no_link).from < 2 ^ a) → ((i : ℕ) → i < length ls → (get_or ls i no_link).to < 2 ^ b)
    → Fit (flat (map (link_fields (a ∷ b ∷ [])) ls))
unfolding link_fields fields_of Fit
links_fit a b ls f t = fit_flat no_link (link_fields (a ∷ b ∷ [])) ls (λ i s. (f i s, (t i s, tt)))

-- a picture that keeps the reader's rules in an edition, with numbers that have their room
pub record Proper (e : Edition) (p : Picture) : Type 0 where
  pub known : Known e
  pub sizes : Sizes (header_for e p)
  pub near_limit_lem : p.near_limit < 2 ^ e.location_bits
  pub counts : Counts (header_for e p)
  pub weights : (i : ℕ) → i < length p.endpoints → (get_or p.endpoints i (endpoint_of p 0)).weight < 2 ^ 16
  pub states : States (header_for e p).slots p
  pub links : Links (header_for e p).slots p
  pub service_links : ServiceLinks (header_for e p).slots (header_for e p).endpoints p

pub header_fits : {e : Edition} (p : Picture) → Known e → Sizes (header_for e p) → p.near_limit < 2 ^ e.location_bits → Counts (header_for e p) → Fit (header_of_lem e p)
unfolding header_fields header_for header_widths header_values fields_of Fit
header_fits p k s n c =
    let w = widths k in
    (w.number_fits, (omega (arith, w.size_fits, s.size_most), (omega (arith, w.slots_fit, s.slots_most), (n, (omega (arith, c.endpoints_most), (omega (arith, c.links_most), (omega (arith, c.service_links_most), tt)))))))

module _ {e : Edition} {p : Picture} (r : Proper e p) where
  slot_fits : (i : ℕ) → i < length p.slots → Fit (slot_fields (get_or p.slots i (slot_of p 0)))
  unfolding slot_fields slot_widths fields_of Fit slot_of item header_for
  slot_fits i s = (omega (arith, r.states.state (suc i) (suc-le-suc zero-le) s), (flag_fits _, tt))

  endpoint_fits : (i : ℕ) → i < length p.endpoints → Fit (endpoint_fields (get_or p.endpoints i (endpoint_of p 0)))
  unfolding endpoint_fields endpoint_widths fields_of Fit
  endpoint_fits i s = (r.weights i s, (flag_fits _, tt))

  pub picture_fits : Fit (picture_fields e p)
  unfolding picture_fields link_widths service_link_widths
  picture_fits =
      let n : (header_for e p).slots < 2 ^ e.location_bits = unfold header_for in omega (arith, (widths r.known).slots_fit, r.sizes.slots_most) in
      let d = r.counts.endpoints_most in
      fit_append (header_of_lem e p) _ (header_fits p r.known r.sizes r.near_limit_lem r.counts)
      (fit_append (slots_of e p) _ (fit_flat (slot_of p 0) slot_fields p.slots slot_fits)
      (fit_append (endpoints_of e p) _ (fit_flat (endpoint_of p 0) endpoint_fields p.endpoints endpoint_fits)
      (fit_append (links_of e p) (services_of e p)
      (links_fit _ _ p.links (λ i s. omega (arith, r.links.from i s)) (λ i s. omega (arith, r.links.to i s)))
      (links_fit _ 8 p.service_links (λ i s. omega (arith, r.service_links.location i s)) (λ i s. omega (arith, r.service_links.endpoint_most i s))))))
