-- Writing the states of a block's slots from the last to the first: what is read before its turn is as it was. Assumes nothing.
use mathlib.Core.Path.{◌≡◌, refl, sym, ap, ap₂, ◌∙◌}
use mathlib.Core.List.{List}
use mathlib.Core.Logic.{inl}
use Prim.Native.Nat.{ℕ, suc, ◌+◌, ◌-◌, ◌*◌, ◌≤◌, ◌<◌}
use native.Mathlib.Omega.{arith}
use lib.ListN.{length}
use Rattle.bits.specs.Bits.{field_at, put_field}
use Rattle.lists.specs.Lists.{range, sum}
use Rattle.picture.specs.declared.Edition.{Edition}
use Rattle.picture.specs.declared.Header.{Header}
use Rattle.picture.specs.Layout.{slot_widths, slots_at, endpoints_at, state_max}
use Rattle.picture.specs.Picture.{Slot, Picture, picture_of, picture_with, slot_at, slot_of}
use Rattle.picture.specs.Inner.{Read}
use Rattle.picture.proofs.Starts.{field_first, slot_row, ordered, rounded}
use Rattle.picture.proofs.Facts.{read_picture, read_edition, read_limited, read_state_most}
use Rattle.acts.specs.declared.Act.{Act}
use Rattle.acts.specs.Acts.{after, block_slots, state_at, put_states, done_bytes}
use Rattle.acts.proofs.States.{field_beside}
use Rattle.acts.proofs.Headers.{read_long, read_block_slots}

-- a field before the slots of a range reads as it did
field_before_states : (e : Edition) (f : ℕ → ℕ) (bs : List ℕ) (i k q u : ℕ) → q + u ≤ slots_at e + i * sum slot_widths → slots_at e + (i + k) * sum slot_widths ≤ length bs * 8
    → field_at (put_states e f bs (range (suc i) k)) q u ≡ field_at bs q u
unfolding state_at slot_widths sum
field_before_states e f bs i k q u l m = field_beside e f bs q u i k m (λ j a s. inl (omega arith))

-- a slot's state is the first field of its row
pub state_field : (h : Header) (bs : List ℕ) (i : ℕ) → i < h.slots → (slot_of (picture_with h bs) (suc i)).state ≡ field_at bs (slots_at h.edition + i * sum slot_widths) 2
unfolding slot_at slot_widths
state_field h bs i l =
    let some : 1 ≤ suc i = omega arith in
    let less : suc i - 1 ≡ i = omega arith in
    ap (λ (x : Slot). x.state) (slot_row h bs (suc i) some l) ∙ field_first bs 2 _ _ ∙ ap (λ (j : ℕ). field_at bs (slots_at h.edition + j * sum slot_widths) 2) less

-- the state that a slot is to take
abbrev pub state_after_lem : Act → List ℕ → ℕ → ℕ
state_after_lem a bs v = after a (slot_of (picture_of bs) v).state

module _ (a : Act) (bs : List ℕ) (h : Header) (r : Read bs h) where
  -- the rows of the slots lie within the bytes
  rows_fit : (v : ℕ) → v ≤ h.slots → slots_at h.edition + v * sum slot_widths ≤ length bs * 8
  unfolding endpoints_at slot_widths sum
  rows_fit v l = omega (arith, ordered h (read_limited bs h r), rounded h, read_long bs h r)

  -- the slot before a range of slots that are written has its state yet
  pub put_reads : (i k : ℕ) (now : List ℕ) → i + suc k ≤ h.slots → now ≡ put_states h.edition (state_after_lem a bs) bs (range (suc (suc i)) k)
      → (slot_of (picture_with h now) (suc i)).state ≡ (slot_of (picture_of bs) (suc i)).state
  put_reads i k now l e =
      let within : i < h.slots = omega arith in
      let fits : suc i + k ≤ h.slots = omega arith in
      let before : slots_at h.edition + i * sum slot_widths + 2 ≤ slots_at h.edition + suc i * sum slot_widths = unfold slot_widths in unfold sum in omega arith in
      state_field h now i within ∙ ap (λ (z : List ℕ). field_at z (slots_at h.edition + i * sum slot_widths) 2) e
      ∙ field_before_states h.edition (state_after_lem a bs) bs (suc i) k _ 2 before (rows_fit _ fits)
      ∙ sym (state_field h bs i within) ∙ ap (λ (p : Picture). (slot_of p (suc i)).state) (read_picture bs h r)

  -- and when it takes its state after the act, the range is one longer
  put_one : (i k : ℕ) (now next : List ℕ) → i + suc k ≤ h.slots → now ≡ put_states h.edition (state_after_lem a bs) bs (range (suc (suc i)) k)
      → next ≡ put_field now (slots_at h.edition + i * sum slot_widths) 2 (after a (slot_of (picture_with h now) (suc i)).state)
      → next ≡ put_states h.edition (state_after_lem a bs) bs (range (suc i) (suc k))
  unfolding state_at
  put_one i k now next l e n =
      n ∙ ap₂ (λ (z : List ℕ) (x : ℕ). put_field z (slots_at h.edition + i * sum slot_widths) 2 (after a x)) e (put_reads i k now l e)
      ∙ unfold range in unfold put_states in refl

  -- ---- the loop: the slots from v up to the end of the block are written

  pub put_begun : (v : ℕ) → bs ≡ put_states h.edition (state_after_lem a bs) bs (range v (v - v))
  unfolding range put_states
  put_begun v =
      let none : 0 ≡ v - v = omega arith in
      ap (λ (j : ℕ). put_states h.edition (state_after_lem a bs) bs (range v j)) none

  -- the state of the slot at hand is one of the three
  pub put_state_most : (v end : ℕ) (now : List ℕ) → 1 < v → v ≤ end → end ≤ h.slots + 1
      → now ≡ put_states h.edition (state_after_lem a bs) bs (range v (end - v)) → (slot_of (picture_with h now) (v - 1)).state ≤ state_max
  put_state_most v end now some most last e =
      let i : ℕ = v - 1 - 1 in
      let above : v ≡ suc (suc i) = omega arith in
      let slot : v - 1 ≡ suc i = omega arith in
      rw (slot, put_reads i (end - v) now (omega arith) (e ∙ ap (λ (u : ℕ). put_states h.edition (state_after_lem a bs) bs (range u (end - v))) above))
      (rw (read_picture bs h r) at (read_state_most bs h r (suc i) (omega arith) (omega arith)))

  pub put_next : (v end : ℕ) (now next : List ℕ) → 1 < v → v ≤ end → end ≤ h.slots + 1
      → now ≡ put_states h.edition (state_after_lem a bs) bs (range v (end - v))
      → next ≡ put_field now (slots_at h.edition + (v - 1 - 1) * sum slot_widths) 2 (after a (slot_of (picture_with h now) (v - 1)).state)
      → next ≡ put_states h.edition (state_after_lem a bs) bs (range (v - 1) (end - (v - 1)))
  put_next v end now next some most last e n =
      let i : ℕ = v - 1 - 1 in
      let k : ℕ = end - v in
      let above : v ≡ suc (suc i) = omega arith in
      let slot : v - 1 ≡ suc i = omega arith in
      let more : suc k ≡ end - (v - 1) = omega arith in
      put_one i k now next (omega arith) (e ∙ ap (λ (u : ℕ). put_states h.edition (state_after_lem a bs) bs (range u k)) above)
      (n ∙ ap (λ (u : ℕ). put_field now (slots_at h.edition + i * sum slot_widths) 2 (after a (slot_of (picture_with h now) u).state)) slot)
      ∙ ap₂ (λ (u m : ℕ). put_states h.edition (state_after_lem a bs) bs (range u m)) (sym slot) more

  pub put_ended : (b k : ℕ) → k ≡ h.block_size
      → put_states h.edition (state_after_lem a bs) bs (range (b * h.block_size + 1) k) ≡ done_bytes a bs b
  unfolding done_bytes
  put_ended b k e =
      ap (λ (m : ℕ). put_states h.edition (state_after_lem a bs) bs (range (b * h.block_size + 1) m)) e
      ∙ ap (put_states h.edition (state_after_lem a bs) bs) (read_block_slots bs h r b)
      ∙ ap (λ (e : Edition). put_states e (state_after_lem a bs) bs (block_slots (picture_of bs) b)) (read_edition bs h r)
