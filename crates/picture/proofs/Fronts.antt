-- What is read of the front of bytes is what is read of all of them. Assumes nothing.
use mathlib.Core.Path.{◌≡◌, ap, ◌∙◌, fun_ext}
use mathlib.Core.List.{List, [], ◌∷◌}
use Prim.Native.Nat.{ℕ, zero, suc, ◌+◌, ◌*◌, ◌≤◌}
use native.Mathlib.Omega.{arith}
use native.Mathlib.Nat.{suc-mul, mul-le-mul_right}
use lib.Dec.{eqb}
use lib.ListN.{get_or, take}
use Rattle.bits.specs.Bits.{field_at}
use Rattle.bits.proofs.Reading.{field_at_part}
use Rattle.lists.specs.Lists.{sum}
use Rattle.picture.specs.declared.Edition.{Edition}
use Rattle.picture.specs.declared.Header.{Header}
use Rattle.picture.specs.declared.Link.{Link}
use Rattle.picture.specs.Layout.{edition_bits, edition_number, header_widths, slot_widths, field_in, slots_at}
use Rattle.picture.specs.Picture.{Slot, header_in, slot_at, link_at, rows}
use Rattle.picture.proofs.Starts.{rows_same}

-- field j ends within the fields
pub field_within : (ws : List ℕ) (j : ℕ) → sum (take j ws) + get_or ws j 0 ≤ sum ws
unfolding sum
field_within [] zero = omega arith
field_within [] (suc j) = omega arith
field_within (w ∷ ws) zero = omega arith
field_within (w ∷ ws) (suc j) = omega (arith, field_within ws j)

-- rows that agree at each place up to their end
rows_within : {A : Type 0} (f g : ℕ → A) (p w k end : ℕ) → p + k * w ≤ end → ((q : ℕ) → q + w ≤ end → f q ≡ g q) → rows f p w k ≡ rows g p w k
rows_within f g p w k end l h = rows_same f g p w k (λ i s. h (p + i * w) (omega (arith, mul-le-mul_right w s, suc-mul i w)))

-- of the first m bytes
module _ (m : ℕ) (bs : List ℕ) where
  -- a field
  field_front : (ws : List ℕ) (p : ℕ) → p + sum ws ≤ m * 8 → (j : ℕ) → field_in (take m bs) ws p j ≡ field_in bs ws p j
  unfolding field_in
  field_front ws p h j = field_at_part bs 0 m _ _ (omega (arith, field_within ws j)) ∙ ap (λ (q : ℕ). field_at bs q (get_or ws j 0)) (omega arith)

  -- the number of the edition, and the header by an edition
  pub edition_front : 1 ≤ m → edition_number (take m bs) ≡ edition_number bs
  unfolding edition_number
  edition_front h = field_at_part bs 0 m 0 edition_bits (omega arith)

  pub header_front : (e : Edition) → slots_at e ≤ m * 8 → header_in e (take m bs) ≡ header_in e bs
  unfolding header_in slots_at
  header_front e h =
      let said : (ℕ → ℕ) → Header = λ f. record { edition = e; block_size = f 1; slots = f 2; near_limit = f 3; endpoints = f 4; links = f 5; service_links = f 6 } in
      ap said (fun_ext (field_front (header_widths e) 0 (omega arith)))

  -- the slots, and the links of either kind
  pub slots_front : (p k : ℕ) → p + k * sum slot_widths ≤ m * 8 → rows (slot_at (take m bs)) p (sum slot_widths) k ≡ rows (slot_at bs) p (sum slot_widths) k
  unfolding slot_at
  slots_front p k h =
      let said : (ℕ → ℕ) → Slot = λ f. record { state = f 0; near = eqb (f 1) 1 } in
      rows_within _ _ p (sum slot_widths) k (m * 8) h (λ q l. ap said (fun_ext (field_front slot_widths q l)))

  pub links_front : (ws : List ℕ) (p k : ℕ) → p + k * sum ws ≤ m * 8 → rows (link_at ws (take m bs)) p (sum ws) k ≡ rows (link_at ws bs) p (sum ws) k
  unfolding link_at
  links_front ws p k h =
      let said : (ℕ → ℕ) → Link = λ f. record { from = f 0; to = f 1 } in
      rows_within _ _ p (sum ws) k (m * 8) h (λ q l. ap said (fun_ext (field_front ws q l)))
