-- The longest picture and a byte more are enough to tell the first fault of any bytes. Assumes nothing.
use mathlib.Core.Path.{◌≡◌, refl, ap, ◌∙◌}
use mathlib.Core.Bool.{Bool, true, false, not, and-false}
use mathlib.Core.Logic.{◌≢◌}
use mathlib.Core.List.{List, ◌∷◌}
use Prim.Native.Nat.{ℕ, ◌-◌, ◌*◌, ◌≤◌, ◌<◌}
use native.Mathlib.Omega.{arith}
use borrow.Author.Tests.{le-ltb, ne_eqb}
use lib.Dec.{T, eqb, ltb}
use lib.ListN.{length, take, length-take}
use Rattle.bits.specs.Bits.{field_at}
use Rattle.lists.specs.Lists.{on, first, sum}
use Rattle.picture.specs.declared.Edition.{Edition}
use Rattle.picture.specs.declared.Header.{Header}
use Rattle.picture.specs.Layout.{edition_for, edition_number, edition_of, picture_max, least_bytes, header_widths, link_widths, service_link_widths, slots_at, header_bytes, endpoints_at, links_at, service_links_at, end_at, size_of}
use Rattle.picture.specs.Picture.{header_of, header_in, picture_with}
use Rattle.picture.specs.Inner.{Known, Limited}
use Rattle.picture.specs.Faults.{sizes_right, counts_right, list_faults, end_right, body_faults, faults_with, fault_in, picture_fault}
use Rattle.picture.proofs.Editions.{known_for, widths}
use Rattle.picture.proofs.Starts.{ordered}
use Rattle.picture.proofs.Judging.{right_limited}
use Rattle.picture.proofs.Accepted.{accepted_kept}
use Rattle.picture.proofs.Fronts.{edition_front, header_front, slots_front, links_front}

-- the rules 2, 3 and 4 in front of two lists of faults, which count only where those rules hold; no bytes are too short for the header
heads_same : (x y z : Bool) (l m : List ℕ) → (T y → T z → first l ≡ first m) → first (0 ∷ on (not x) 2 ∷ 0 ∷ on (not y) 3 ∷ on (not z) 4 ∷ l) ≡ first (0 ∷ on (not x) 2 ∷ 0 ∷ on (not y) 3 ∷ on (not z) 4 ∷ m)
unfolding first on
heads_same true true true l m h = h tt tt
heads_same true true false l m h = refl
heads_same true false z l m h = refl
heads_same false y z l m h = refl

-- a header is shorter than the longest picture
whole_small : {e : Edition} → Known e → header_bytes e ≤ picture_max
unfolding header_bytes slots_at header_widths sum
whole_small k = omega (arith, widths k)

module _ (h : Header) (l : Limited h) where
  -- no picture is longer
  pub size_small : size_of h ≤ picture_max
  unfolding size_of
  size_small = omega (arith, ordered h l)

  -- longer bytes do not end where the picture does
  too_long : (bs : List ℕ) → picture_max < length bs → end_right h bs ≡ false
  unfolding end_right
  too_long bs m = rw (ne_eqb (length bs) (size_of h) (λ e. absurd (omega (arith, size_small)))) (and-false (eqb (field_at bs (end_at h) (size_of h * 8 - end_at h)) 0))

-- ---- longer bytes, of which the first m are read

module _ (m : ℕ) (wide : picture_max < m) (bs : List ℕ) (over : m < length bs) where
  abbrev front : List ℕ
  front = take m bs

  -- they are over too
  front_long : picture_max < length front
  front_long = omega (arith, length-take m bs)

  module _ (h : Header) (l : Limited h) where
    -- the parts up to the end of the longest picture are the same
    parts_same : body_faults h (picture_with h front) front ≡ body_faults h (picture_with h bs) bs
    unfolding list_faults body_faults picture_with
    parts_same =
        let o = ordered h l in
        let e = h.edition in
        rw (
          slots_front m bs (slots_at e) h.slots (unfold endpoints_at in omega (arith, o)),
          links_front m bs (link_widths e) (links_at h) h.links (unfold service_links_at in omega (arith, o)),
          links_front m bs (service_link_widths e) (service_links_at h) h.service_links (unfold end_at in omega (arith, o)),
          too_long h l front front_long,
          too_long h l bs (omega arith),
        )

    -- and neither is too short
    rest_same : first (on (ltb (length front) (size_of h)) 1 ∷ body_faults h (picture_with h front) front) ≡ first (on (ltb (length bs) (size_of h)) 1 ∷ body_faults h (picture_with h bs) bs)
    rest_same =
        let small = size_small h l in
        rw (le-ltb (length front) (size_of h) (omega (arith, front_long)), le-ltb (length bs) (size_of h) (omega arith), parts_same)

  -- by a header of their own, of an edition that is known
  with_same : (h : Header) → Known h.edition → first (faults_with h (picture_with h front) front) ≡ first (faults_with h (picture_with h bs) bs)
  unfolding faults_with on
  with_same h k =
      let head = whole_small k in
      rw (
        le-ltb (length front) least_bytes (omega (arith, front_long)),
        le-ltb (length bs) least_bytes (omega arith),
        le-ltb (length front) (header_bytes h.edition) (omega (arith, front_long)),
        le-ltb (length bs) (header_bytes h.edition) (omega arith),
        edition_front m bs (omega arith),
      )
      (heads_same (eqb (edition_number bs) h.edition.number) (sizes_right h) (counts_right h) _ _ (λ s c. rest_same h (right_limited h k s c)))

  -- so that the first fault is the same, and there is one
  pub fault_same : picture_fault front ≡ picture_fault bs
  unfolding picture_fault header_in
  fault_same =
      let e = edition_of bs in
      let k = known_for (edition_number bs) in
      ap (λ (number : ℕ). fault_in (edition_for number) front) (edition_front m bs (omega arith))
      ∙ ap (λ (h : Header). first (faults_with h (picture_with h front) front)) (header_front m bs e (omega (arith, whole_small k, (widths k).whole)))
      ∙ with_same (header_in e bs) k

  pub faulty : picture_fault bs ≢ 0
  unfolding header_of header_in
  faulty z =
      let k = accepted_kept bs z in
      absurd (omega (arith, k.ends.end, size_small (header_of bs) (record { known = known_for _; slots = k.sizes.slots_most; counts = k.counts })))
