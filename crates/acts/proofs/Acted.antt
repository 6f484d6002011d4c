-- An act on the bytes is the act on the picture: the bytes stay accepted, their header stays, and so does every bit but the states of
-- the block. Assumes nothing.
use mathlib.Core.Path.{◌≡◌, refl, sym, ap, ◌∙◌}
use mathlib.Core.Bool.{Bool, true, false, ◌&&◌, cond}
use mathlib.Core.Logic.{◌⊎◌, inl, inr}
use mathlib.Core.List.{List, [], ◌∷◌, map}
use Prim.Native.Nat.{ℕ, suc, ◌+◌, ◌*◌, ◌≤◌, ◌<◌}
use native.Mathlib.Omega.{arith}
use native.Mathlib.Decide.{dec_lt}
use native.Mathlib.Nat.{zero-add, mod-eq_of_lt, le_trans}
use native.Mathlib.Numerals.{add-one, one-add}
use lib.Dec.{T, eqb, leb, lit<}
use borrow.Author.Tests.{leb-true, leb-false}
use lib.ListN.{length, get_or, take}
use Rattle.bits.specs.Bits.{bit_at, field_at}
use Rattle.bits.proofs.Reading.{field_at_lt}
use Rattle.lists.specs.Lists.{range, item, sum}
use Rattle.picture.specs.declared.Edition.{Edition}
use Rattle.picture.specs.declared.Header.{Header}
use Rattle.picture.specs.Layout.{edition_for, edition_bits, edition_number, edition_of, header_widths, slot_widths, endpoint_widths, link_widths, service_link_widths, field_in, slots_at, endpoints_at, links_at, service_links_at, end_at}
use Rattle.picture.specs.Picture.{Picture, Slot, header_in, header_of, slot_at, endpoint_at, link_at, rows, picture_with, picture_of, slot_of}
use Rattle.picture.specs.Faults.{picture_fault}
use Rattle.picture.proofs.Kept.{Kept}
use Rattle.lists.proofs.Ranges.{map_range_same}
use Rattle.picture.proofs.Fronts.{field_within}
use Rattle.picture.proofs.Starts.{field_first, field_second, row_at, rows_same, rounded}
use Rattle.picture.proofs.Accepted.{accepted_kept, kept_accepted}
use Rattle.network.specs.Words.{slot_count, block_count, in_block}
use Rattle.network.proofs.Named.{slots_counted}
use Rattle.network.proofs.Blocks.{block_fits}
use Rattle.acts.specs.declared.Act.{Act}
use Rattle.acts.specs.Acts.{after, block_slots, state_at, StateBit, put_states, done_bytes, slot_after, act_on}
use Rattle.acts.proofs.States.{length_put_states, bit_beside, field_beside, field_state}
use Rattle.acts.proofs.Slots.{after_small, block_in_lem, states_known}

-- ---- rows

rows_from : {A : Type 0} (f g : ℕ → A) (q w k : ℕ) → ((x : ℕ) → q ≤ x → f x ≡ g x) → rows f q w k ≡ rows g q w k
rows_from f g q w k h = rows_same f g q w k (λ i s. h _ (omega arith))

-- the states of two slots do not meet
states_apart : (e : Edition) (i j : ℕ) → i < j → state_at e i + 2 ≤ state_at e j
unfolding state_at slot_widths sum
states_apart e i j l = omega arith

-- ---- the bytes

module _ (a : Act) (bs : List ℕ) (b : ℕ) (ok : picture_fault bs ≡ 0) (there : b < block_count (picture_of bs)) where
  abbrev h : Header
  h = header_of bs

  abbrev e : Edition
  e = (header_of bs).edition

  abbrev p : Picture
  p = picture_of bs

  abbrev size : ℕ
  size = (header_of bs).block_size

  abbrev done : List ℕ
  done = done_bytes a bs b

  abbrev states : ℕ → ℕ
  states v = after a (slot_of (picture_of bs) v).state

  fits : b * size + size ≤ h.slots
  unfolding picture_of picture_with block_count
  fits = block_fits h.slots size b (rw (← slots_counted bs) there)

  bytes : done ≡ put_states e states bs (range (suc (b * size)) size)
  unfolding done_bytes block_slots header_of header_in picture_of picture_with
  bytes = ap (λ (i : ℕ). put_states e states bs (range i size)) (add-one (b * size))

  -- the states lie inside the bytes
  room : state_at e (b * size + size) ≤ length bs * 8
  unfolding state_at end_at service_links_at links_at endpoints_at slot_widths sum
  room = omega (arith, fits, (rounded h).room, (accepted_kept bs ok).long)

  pub acted_length : length (done_bytes a bs b) ≡ length bs
  acted_length = ap (λ (l : List ℕ). length l) bytes ∙ length_put_states e states bs (range (suc (b * size)) size)

  -- every bit that is not one of the two state bits of a slot of the block is as it was
  pub acted_bits : (m : ℕ) → ¬ StateBit (header_of bs).edition (picture_of bs) b m → bit_at (done_bytes a bs b) m ≡ bit_at bs m
  acted_bits m n = rw bytes (bit_beside e states bs m (b * size) size room (λ j l s. beside j l s (dec_lt m (state_at e j)) (dec_lt m (state_at e j + 2))))
    where
      inside : (j : ℕ) → b * size ≤ j → j < b * size + size → T (in_block (picture_of bs) b (suc j))
      inside j l s = unfold picture_of picture_with in block_in_lem p b (suc j) (omega arith) s

      beside : (j : ℕ) → b * size ≤ j → j < b * size + size → Dec (m < state_at e j) → Dec (m < state_at e j + 2) → (m < state_at e j) ⊎ (state_at e j + 2 ≤ m)
      beside j l s (yes x) y = inl x
      beside j l s (no x) (yes y) = absurd (n (record { before = j; inside = inside j l s; from = omega arith; below = y }))
      beside j l s (no x) (no y) = inr (omega arith)

  -- ---- fields

  -- a field that starts behind the slots or ends before them
  apart : (q u : ℕ) → (q + u ≤ slots_at e) ⊎ (endpoints_at h ≤ q) → field_at done q u ≡ field_at bs q u
  unfolding state_at endpoints_at slot_widths sum
  apart q u o = rw bytes (field_beside e states bs q u (b * size) size room (λ j l s. place o j s))
    where
      place : (q + u ≤ slots_at e) ⊎ (endpoints_at h ≤ q) → (j : ℕ) → j < b * size + size → (q + u ≤ state_at e j) ⊎ (state_at e j + 2 ≤ q)
      place (inl x) j s = inl (omega arith)
      place (inr x) j s = inr (omega (arith, fits))

  in-header : (q u : ℕ) → q + u ≤ slots_at e → field_at done q u ≡ field_at bs q u
  in-header q u l = apart q u (inl l)

  behind : (ws : List ℕ) (q k : ℕ) → endpoints_at h ≤ q → field_in done ws q k ≡ field_in bs ws q k
  unfolding field_in
  behind ws q k l = apart (q + sum (take k ws)) (get_or ws k 0) (inr (omega arith))

  bit_behind : (m : ℕ) → endpoints_at h ≤ m → bit_at done m ≡ bit_at bs m
  unfolding state_at endpoints_at slot_widths sum
  bit_behind m l = rw bytes (bit_beside e states bs m (b * size) size room (λ j i s. inr (omega (arith, fits))))

  number_same : edition_number done ≡ edition_number bs
  unfolding edition_number slots_at header_widths sum
  number_same = in-header 0 edition_bits (omega arith)

  edition_same : edition_of done ≡ edition_of bs
  edition_same = ap edition_for number_same

  pub acted_header : header_of (done_bytes a bs b) ≡ header_of bs
  unfolding header_of header_in field_in slots_at
  acted_header =
      let ws = header_widths (edition_of bs) in
      let field : (k : ℕ) → field_in done ws 0 k ≡ field_in bs ws 0 k = λ k. in-header (0 + sum (take k ws)) (get_or ws k 0) (omega (arith, field_within ws k)) in
      ap (λ (x : Edition). header_in x done) edition_same
      ∙ (λ i. record { edition = edition_of bs; block_size = field 1 i; slots = field 2 i; near_limit = field 3 i; endpoints = field 4 i; links = field 5 i; service_links = field 6 i })

  -- ---- slots

  slot_at_lem : (i : ℕ) → i < h.slots → slot_of p (suc i) ≡ slot_at bs (state_at e i)
  unfolding slot_of item picture_of picture_with state_at
  slot_at_lem i l = row_at (slot_at bs) _ (slots_at e) (sum slot_widths) h.slots i l

  state_at_lem : (i : ℕ) → i < h.slots → (slot_of p (suc i)).state ≡ field_at bs (state_at e i) 2
  unfolding slot_at slot_widths
  state_at_lem i l = ap (λ (s : Slot). s.state) (slot_at_lem i l) ∙ field_first bs 2 (1 ∷ []) (state_at e i)

  near_at : (i : ℕ) → i < h.slots → (slot_of p (suc i)).near ≡ eqb (field_at bs (state_at e i + 2) 1) 1
  unfolding slot_at slot_widths
  near_at i l = ap (λ (s : Slot). s.near) (slot_at_lem i l) ∙ ap (λ (x : ℕ). eqb x 1) (field_second bs 2 1 [] (state_at e i))

  state_after_lem : (i : ℕ) → i < h.slots → field_at done (state_at e i) 2 ≡ (slot_after a p b (suc i)).state
  unfolding slot_after in_block picture_of picture_with
  state_after_lem i l = rw bytes (go (leb (b * size + 1) (suc i)) refl (leb (suc i) (b * size + size)) refl)
    where
      new : List ℕ
      new = put_states e states bs (range (suc (b * size)) size)

      s : ℕ
      s = (slot_of p (suc i)).state

      small : after a s < 4
      small = after_small a s (lit< tt) (rw (state_at_lem i l) (field_at_lt bs (state_at e i) 2))

      keep : (i < b * size) ⊎ (b * size + size ≤ i) → field_at new (state_at e i) 2 ≡ s
      keep o = field_beside e states bs (state_at e i) 2 (b * size) size room (λ j m t. beside o j m t) ∙ sym (state_at_lem i l)
        where
          beside : (i < b * size) ⊎ (b * size + size ≤ i) → (j : ℕ) → b * size ≤ j → j < b * size + size → (state_at e i + 2 ≤ state_at e j) ⊎ (state_at e j + 2 ≤ state_at e i)
          beside (inl x) j m t = inl (states_apart e i j (omega arith))
          beside (inr x) j m t = inr (states_apart e j i (omega arith))

      go : (x : Bool) → leb (b * size + 1) (suc i) ≡ x → (y : Bool) → leb (suc i) (b * size + size) ≡ y → field_at new (state_at e i) 2 ≡ cond (x && y) (after a s) s
      go true ex true ey = field_state e states bs (b * size) size i room (omega (arith, leb-true (b * size + 1) (suc i) ex)) (omega (arith, leb-true (suc i) (b * size + size) ey)) ∙ mod-eq_of_lt small
      go true ex false ey = keep (inr (omega (arith, leb-false (suc i) (b * size + size) ey)))
      go false ex y ey = keep (inl (omega (arith, leb-false (b * size + 1) (suc i) ex)))

  near_after_lem : (i : ℕ) → field_at done (state_at e i + 2) 1 ≡ field_at bs (state_at e i + 2) 1
  unfolding state_at slot_widths sum
  near_after_lem i = rw bytes (field_beside e states bs (state_at e i + 2) 1 (b * size) size room (λ j l t. beside j (dec_lt i j)))
    where
      beside : (j : ℕ) → Dec (i < j) → (state_at e i + 2 + 1 ≤ state_at e j) ⊎ (state_at e j + 2 ≤ state_at e i + 2)
      beside j (yes x) = inl (omega arith)
      beside j (no x) = inr (omega arith)

  slot_after_lem : (i : ℕ) → i < h.slots → slot_at done (state_at e i) ≡ slot_after a p b (suc i)
  unfolding slot_at slot_after slot_widths
  slot_after_lem i l = λ j. record { state = state j; near = near j }
    where
      state : field_in done (2 ∷ 1 ∷ []) (state_at e i) 0 ≡ (slot_after a p b (suc i)).state
      state = field_first done 2 (1 ∷ []) (state_at e i) ∙ state_after_lem i l

      near : eqb (field_in done (2 ∷ 1 ∷ []) (state_at e i) 1) 1 ≡ (slot_of p (suc i)).near
      near = ap (λ (x : ℕ). eqb x 1) (field_second done 2 1 [] (state_at e i) ∙ near_after_lem i) ∙ sym (near_at i l)

  slots_after : rows (slot_at done) (slots_at e) (sum slot_widths) h.slots ≡ map (slot_after a p b) (range 1 (slot_count p))
  unfolding rows state_at
  slots_after =
      map_range_same (λ i. slot_at done (slots_at e + i * sum slot_widths)) (slot_after a p b) 0 1 h.slots
      (λ i l. ap (λ (j : ℕ). slot_at done (slots_at e + j * sum slot_widths)) (zero-add i) ∙ slot_after_lem i l ∙ ap (slot_after a p b) (sym (one-add i)))
      ∙ ap (λ (k : ℕ). map (slot_after a p b) (range 1 k)) (sym (slots_counted bs))

  -- ---- the parts behind the slots

  endpoint_same : (q : ℕ) → endpoints_at h ≤ q → endpoint_at done q ≡ endpoint_at bs q
  unfolding endpoint_at
  endpoint_same q l = λ i. record { weight = behind endpoint_widths q 0 l i; protected = eqb (behind endpoint_widths q 1 l i) 1 }

  link_same : (ws : List ℕ) (q : ℕ) → endpoints_at h ≤ q → link_at ws done q ≡ link_at ws bs q
  unfolding link_at
  link_same ws q l = λ i. record { from = behind ws q 0 l i; to = behind ws q 1 l i }

  links_behind : endpoints_at h ≤ links_at h
  unfolding links_at
  links_behind = omega arith

  services_behind : endpoints_at h ≤ service_links_at h
  unfolding service_links_at links_at
  services_behind = omega arith

  end_behind : endpoints_at h ≤ end_at h
  unfolding end_at service_links_at links_at
  end_behind = omega arith

  -- the new bytes say what the act makes of the picture
  pub acted_picture : picture_of (done_bytes a bs b) ≡ act_on a (picture_of bs) b
  unfolding picture_of picture_with act_on
  acted_picture =
      ap (λ (k : Header). picture_with k done) acted_header
      ∙ (λ i.
      record {
        block_size = h.block_size;
        near_limit = h.near_limit;
        slots = slots_after i;
        endpoints = rows_from (endpoint_at done) (endpoint_at bs) (endpoints_at h) (sum endpoint_widths) h.endpoints endpoint_same i;
        links = rows_from (link_at (link_widths e) done) (link_at (link_widths e) bs) (links_at h) (sum (link_widths e)) h.links
            (λ x l. link_same (link_widths e) x (le_trans links_behind l)) i;
        service_links = rows_from (link_at (service_link_widths e) done) (link_at (service_link_widths e) bs) (service_links_at h) (sum (service_link_widths e)) h.service_links
            (λ x l. link_same (service_link_widths e) x (le_trans services_behind l)) i;
      })

  -- and are accepted
  pub acted_accepted : picture_fault (done_bytes a bs b) ≡ 0
  acted_accepted =
      kept_accepted done
      (record {
        header = rw acted_length k.header;
        edition = number_same ∙ k.edition ∙ ap (λ (x : Edition). x.number) (sym edition_same);
        whole = rw (edition_same, acted_length) k.whole;
        sizes = rw acted_header k.sizes;
        counts = rw acted_header k.counts;
        long = rw (acted_header, acted_length) k.long;
        states = rw (acted_header, acted_picture) (record { state = λ v l m. states_known a p b (λ u x y. k.states.state u x (rw (slots_counted bs) at y)) v l (rw (slots_counted bs) m) });
        links = rw (acted_header, acted_picture) (unfold act_on in record { from = k.links.from; to = k.links.to });
        service_links = rw (acted_header, acted_picture) (unfold act_on in record { location = k.service_links.location; endpoint_some = k.service_links.endpoint_some; endpoint_most = k.service_links.endpoint_most });
        ends = rw acted_header (record { fill = λ i l m. bit_behind i (le_trans end_behind l) ∙ k.ends.fill i l m; end = acted_length ∙ k.ends.end });
      })
    where
      k : Kept bs
      k = accepted_kept bs ok
