-- Where a section stands, and its fields. Assumes nothing.
use mathlib.Core.Path.{◌≡◌, refl, sym, ap, ◌∙◌}
use mathlib.Core.List.{List}
use Prim.Native.Nat.{ℕ, zero, suc, ◌+◌, ◌*◌, ◌^◌, ◌≤◌, ◌<◌}
use native.Mathlib.Omega.{arith}
use native.Mathlib.Nat.{mul-le-mul, suc-mul, mul_assoc}
use Rattle.bits.specs.Bits.{field_at}
use Rattle.bits.proofs.Reading.{field_at_below}
use Rattle.lists.specs.Lists.{sum}
use Rattle.picture.specs.declared.Edition.{Edition}
use Rattle.picture.specs.Layout.{edition2, field_in}
use Rattle.picture.specs.declared.Header.{Header}
use Rattle.picture.specs.Inner.{Known, Limited}
use Rattle.picture.proofs.Editions.{widths}
use Rattle.picture.proofs.Starts.{few}
use Rattle.evidence.specs.Layout.{head_widths, node_widths, node_bytes, section_head_widths, forest_bits, section_bits, section_bytes, section_at, forest_at}
use Rattle.evidence.specs.Contents.{head_in, section_in}

-- the head takes whole bytes
pub head_whole : sum head_widths ≡ 9 * 8
unfolding head_widths sum
head_whole = refl

-- and what a section has before its forest
pub section_head_whole : sum section_head_widths ≡ 5 * 8
unfolding section_head_widths sum
section_head_whole = refl

-- a node does in either edition
pub node_whole : {e : Edition} → Known e → sum (node_widths e) ≡ node_bytes e * 8
unfolding node_bytes node_widths sum
node_whole Known.first = refl
node_whole Known.second = refl

-- two, or three
pub node_bytes_lem : {e : Edition} → Known e → (2 ≤ node_bytes e) × (node_bytes e ≤ 3)
unfolding node_bytes node_widths sum
node_bytes_lem Known.first = (omega arith, omega arith)
node_bytes_lem Known.second = (omega arith, omega arith)

module _ {e : Edition} (known : Known e) where
  -- so a forest, a section and so many of them do
  pub forest_whole : (n : ℕ) → forest_bits e n ≡ n * node_bytes e * 8
  unfolding forest_bits
  forest_whole n = ap (λ (x : ℕ). n * x) (node_whole known) ∙ sym (mul_assoc n (node_bytes e) 8)

  pub section_bytes_lem : (n : ℕ) → section_bytes e n ≡ 5 + n * node_bytes e
  unfolding section_bytes section_bits section_head_widths sum
  section_bytes_lem n = omega (arith, forest_whole n)

  pub section_whole : (n : ℕ) → section_bits e n ≡ section_bytes e n * 8
  unfolding section_bits section_head_widths sum
  section_whole n = omega (arith, forest_whole n, section_bytes_lem n)

  pub sections_whole : (n c : ℕ) → c * section_bits e n ≡ c * section_bytes e n * 8
  sections_whole n c = ap (λ (x : ℕ). c * x) (section_whole n) ∙ sym (mul_assoc c (section_bytes e n) 8)

  -- a forest, and with it a section, takes no more than that of the most slots in the widest edition
  pub node_most : sum (node_widths e) ≤ sum (node_widths edition2)
  unfolding node_widths sum
  node_most = omega (arith, widths known)

  pub forest_most : (n : ℕ) → n ≤ edition2.slots_max → forest_bits e n ≤ forest_bits edition2 edition2.slots_max
  unfolding forest_bits
  forest_most n l = mul-le-mul l node_most

  pub section_most : (n i : ℕ) → n ≤ edition2.slots_max → i ≤ 255 → i * section_bits e n ≤ 255 * section_bits edition2 edition2.slots_max
  unfolding section_bits
  section_most n i l m = mul-le-mul m (omega (arith, forest_most n l))

  -- so that places are small numbers
  pub section_small : (n i : ℕ) → n ≤ edition2.slots_max → i ≤ 255 → section_at e n i < 2 ^ 21
  unfolding section_at head_widths section_bits section_head_widths forest_bits node_widths sum
  section_small n i l m = omega (arith, forest_most n l, section_most n i l m)

  pub forest_at_lem : (n k : ℕ) → forest_at e n k ≡ sum head_widths + k * section_bits e n
  unfolding forest_at section_at
  forest_at_lem n zero = omega arith
  forest_at_lem n (suc i) = unfold section_bits in omega (arith, suc-mul i (section_bits e n))

  pub forest_small : (n k : ℕ) → n ≤ edition2.slots_max → k ≤ 255 → forest_at e n k < 2 ^ 21
  unfolding head_widths section_bits section_head_widths forest_bits node_widths sum
  forest_small n k l m = omega (arith, forest_at_lem n k, section_most n k l m)

-- the same under a header
module _ (h : Header) (l : Limited h) where
  abbrev most : h.slots ≤ edition2.slots_max
  most = (few h l).slots

  pub forest_low : forest_bits h.edition h.slots < 2 ^ 13
  unfolding forest_bits node_widths sum
  forest_low = omega (arith, forest_most l.known h.slots most)

  pub section_low : (i : ℕ) → i ≤ 255 → section_at h.edition h.slots i < 2 ^ 21
  section_low i = section_small l.known h.slots i most

  pub sections_low : (k : ℕ) → k ≤ 255 → sum head_widths + k * section_bits h.edition h.slots < 2 ^ 21
  unfolding section_at
  sections_low k m = omega (arith, section_low k m)

  pub forest_place_low : (k : ℕ) → k ≤ 255 → forest_at h.edition h.slots k < 2 ^ 21
  forest_place_low k = forest_small l.known h.slots k most

-- what the sums of the code ask for
pub ruleset places = (head_whole, section_head_whole, forest_low, section_low, sections_low, forest_at_lem)

-- the block of section i, from where that starts
pub block_at : (e : Edition) (n : ℕ) (ev : List ℕ) (i : ℕ) {at : ℕ} → at ≡ section_at e n i → field_at ev at 8 ≡ (section_in e n ev i).block
unfolding section_in section_head_widths field_in sum
block_at e n ev i s = ap (λ (q : ℕ). field_at ev q 8) (s ∙ omega arith)

-- no number that the head or a section states has more than 24 bits
module _ (ev : List ℕ) where
  pub head_below : ((head_in ev).block < 2 ^ 24) × ((head_in ev).served < 2 ^ 24) × ((head_in ev).loss < 2 ^ 24)
  unfolding head_in head_widths field_in
  head_below = (field_at_below ev _ 8 24 refl (omega arith), field_at_below ev _ 24 24 refl (omega arith), field_at_below ev _ 24 24 refl (omega arith))

  pub section_below : (e : Edition) (n i : ℕ) → let w = section_in e n ev i in (w.block < 2 ^ 24) × (w.loss < 2 ^ 24) × (w.mark < 2 ^ 24)
  unfolding section_in section_head_widths field_in
  section_below e n i =
      (field_at_below ev _ 8 24 refl (omega arith), field_at_below ev _ 24 24 refl (omega arith), field_at_below ev _ 8 24 refl (omega arith))
