-- The lists that draws fill keep the reader's rules, and their rows are the fields that the code writes. Assumes nothing.
use mathlib.Core.Path.{◌≡◌, sym, ap, ap₂, ◌∙◌, subst}
use mathlib.Core.Logic.{by_cases}
use mathlib.Core.List.{List, [], ◌∷◌, map, map-map}
use Prim.Native.Nat.{ℕ, zero, suc, ◌+◌, ◌*◌, ◌%◌, ◌^◌, ◌≤◌, ◌<◌}
use native.Mathlib.Omega.{arith}
use native.Mathlib.Nat.{add-zero, zero-add, mod-lt}
use native.Mathlib.Decide.{ℕ_discrete}
use lib.Dec.{eqb}
use lib.ListN.{length, get_or, length-map}
use Rattle.lists.specs.Lists.{range, on, item}
use Rattle.lists.proofs.Ranges.{length_range, get_d_map_range, map_range_same}
use Rattle.packing.specs.Packing.{Field, fields_of}
use Rattle.picture.specs.declared.Header.{Header}
use Rattle.picture.specs.declared.Link.{Link}
use Rattle.picture.specs.Layout.{edition1, slot_widths, endpoint_widths}
use Rattle.picture.specs.Picture.{slot_of, endpoint_of}
use Rattle.picture.specs.Rules.{no_link, States, Links}
use Rattle.picture.specs.Inner.{Known}
use Rattle.picture.proofs.Editions.{widths}
use Rattle.picture.proofs.Kept.{ServiceLinks}
use Rattle.write.specs.Columns.{header_for}
use Rattle.write.specs.Fields.{slot_fields, endpoint_fields, link_fields}
use Rattle.write.proofs.Fields.{Proper}
use Rattle.write.proofs.Reading.{flag_read}
use Rattle.draws.specs.Draws.{state_after, draw}
use Rattle.draws.proofs.States.{draw_later}
use Rattle.generator.specs.declared.DrawnField.{DrawnField}
use Rattle.generator.specs.Generated.{drawn_rows, drawn_slot, drawn_endpoint, drawn_link, drawn_service_link, generated}
use Rattle.generator.specs.Inner.{taken, row_fields}
use Rattle.generator.proofs.Judged.{Right}

-- ---- rows of draws

module _ {A : Type 0} (f : ℕ → ℕ → A) (seed j k : ℕ) where
  pub length_drawn : length (drawn_rows f seed j k) ≡ k
  unfolding drawn_rows
  length_drawn = length-map (range 0 k) _ ∙ length_range 0 k

  pub drawn_at : (d : A) (i : ℕ) → i < k → get_or (drawn_rows f seed j k) i d ≡ f (draw seed (j + i * 2 + 1)) (draw seed (j + i * 2 + 2))
  unfolding drawn_rows
  drawn_at d i l = rw (get_d_map_range _ d 0 k i l, zero-add i)

  -- a property that each row has
  pub drawn_each : (P : A → Type 0) (d : A) → ((x y : ℕ) → P (f x y)) → (i : ℕ) → i < length (drawn_rows f seed j k) → P (get_or (drawn_rows f seed j k) i d)
  drawn_each P d each i s = subst P (sym (drawn_at d i (omega (arith, length_drawn)))) (each _ _)

-- rows from the state after j draws are those from draw j + 1 on, told by their fields
pub drawn_fields : {A : Type 0} (g : A → List Field) (f : ℕ → ℕ → A) (a b : DrawnField) → ((x y : ℕ) → row_fields a b x y ≡ g (f x y)) → (seed j k : ℕ)
    → drawn_rows (row_fields a b) (state_after seed j) 0 k ≡ map g (drawn_rows f seed j k)
unfolding drawn_rows
drawn_fields g f a b e seed j k =
    map_range_same _ (λ (i : ℕ). g (f (draw seed (j + i * 2 + 1)) (draw seed (j + i * 2 + 2)))) 0 0 k (λ m s. ap₂ (row_fields a b) (later (0 + m) 1) (later (0 + m) 2) ∙ e _ _)
    ∙ sym (map-map g _ (range 0 k))
  where
    later : (i n : ℕ) → draw (state_after seed j) (0 + i * 2 + n) ≡ draw seed (j + i * 2 + n)
    later i n = draw_later seed j (0 + i * 2 + n) ∙ ap (draw seed) (omega arith)

-- ---- the rules that they keep

module _ (seed : ℕ) (h : Header) where
  pub drawn_states : States h.slots (generated seed h)
  unfolding generated slot_of item
  drawn_states = record { state = state }
    where
      state : (v : ℕ) → 1 ≤ v → v ≤ h.slots → (slot_of (generated seed h) v).state ≤ 2
      state zero a b = absurd (omega arith)
      state (suc i) a b = drawn_each drawn_slot seed 0 h.slots (λ s. s.state ≤ 2) _ (λ x y. unfold drawn_slot in omega arith) i (omega (arith, length_drawn drawn_slot seed 0 h.slots))

  -- a location is at most n
  location : (x : ℕ) → x % (h.slots + 1) ≤ h.slots
  location x = omega (arith, mod-lt x {m = h.slots + 1} (omega arith))

  pub drawn_links : Links h.slots (generated seed h)
  unfolding generated drawn_link
  drawn_links =
      let row = drawn_link h.slots in
      let j = h.slots * 2 + h.endpoints * 2 in
      record {
        from = drawn_each row seed j h.links (λ l. l.from ≤ h.slots) no_link (λ x y. location x);
        to = drawn_each row seed j h.links (λ l. l.to ≤ h.slots) no_link (λ x y. location y);
      }

  -- service links have endpoints where there are any
  module _ (served : h.endpoints ≡ 0 → h.service_links ≡ 0) where
    abbrev row : ℕ → ℕ → Link
    row = drawn_service_link h.slots h.endpoints

    abbrev start : ℕ
    start = h.slots * 2 + h.endpoints * 2 + h.links * 2

    abbrev count : ℕ
    count = h.service_links

    some : (i : ℕ) → i < length (drawn_rows row seed start count) → 1 ≤ h.endpoints
    some i s = by_cases (ℕ_discrete h.endpoints 0) (λ z. absurd (omega (arith, served z, length_drawn row seed start count))) (λ n. omega arith)

    pub drawn_services : ServiceLinks h.slots h.endpoints (generated seed h)
    unfolding generated drawn_service_link
    drawn_services =
        record {
          location = drawn_each row seed start count (λ l. l.from ≤ h.slots) no_link (λ x y. location x);
          endpoint_some = drawn_each row seed start count (λ l. 1 ≤ l.to) no_link (λ x y. omega arith);
          endpoint_most = λ i s. drawn_each row seed start count (λ l. l.to ≤ h.endpoints) no_link (λ x y. omega (arith, mod-lt y (some i s))) i s;
        }

  pub drawn_weights : (i : ℕ) → i < length (generated seed h).endpoints → (get_or (generated seed h).endpoints i (endpoint_of (generated seed h) 0)).weight < 2 ^ 16
  unfolding generated drawn_endpoint
  drawn_weights = drawn_each drawn_endpoint seed (h.slots * 2) h.endpoints (λ c. c.weight < 2 ^ 16) _ (λ x y. omega arith)

  -- the header is the picture's own
  pub drawn_header : h ≡ header_for h.edition (generated seed h)
  unfolding header_for generated
  drawn_header =
      let ss = length_drawn drawn_slot seed 0 h.slots in
      let cs = length_drawn drawn_endpoint seed (h.slots * 2) h.endpoints in
      let ls = length_drawn (drawn_link h.slots) seed (h.slots * 2 + h.endpoints * 2) h.links in
      let vs = length_drawn (drawn_service_link h.slots h.endpoints) seed (h.slots * 2 + h.endpoints * 2 + h.links * 2) h.service_links in
      λ i.
      record {
        edition = h.edition;
        block_size = h.block_size;
        slots = sym ss i;
        near_limit = h.near_limit;
        endpoints = sym cs i;
        links = sym ls i;
        service_links = sym vs i;
      }

  -- so the picture is one that the reader accepts
  pub drawn_proper : h.edition ≡ edition1 → h.near_limit ≡ h.slots → Right h → Proper h.edition (generated seed h)
  unfolding generated
  drawn_proper e near r =
      let own : header_for h.edition (generated seed h) ≡ h = sym drawn_header in
      let known : Known h.edition = subst Known (sym e) Known.first in
      record {
        known = known;
        sizes = rw own r.sizes;
        near_limit_lem = omega (arith, near, r.sizes.slots_most, (widths known).slots_fit);
        counts = rw own r.counts;
        weights = drawn_weights;
        states = rw own drawn_states;
        links = rw own drawn_links;
        service_links = rw own (drawn_services r.served);
      }

-- ---- the fields of a row are those that the code writes

-- a flag is a bit
bit : (y : ℕ) → y % 2 + 0 ≡ on (eqb (y % 2) 1) 1
bit y = add-zero (y % 2) ∙ sym (flag_read (y % 2) (omega arith))

pub slot_row : (x y : ℕ) → row_fields (record { bits = 2; values = 3; least = 0 }) (record { bits = 1; values = 2; least = 0 }) x y ≡ slot_fields (drawn_slot x y)
unfolding row_fields taken slot_fields slot_widths drawn_slot
slot_row x y = ap₂ (λ (s b : ℕ). fields_of (2 ∷ 1 ∷ []) (s ∷ b ∷ [])) (add-zero (x % 3)) (bit y)

pub endpoint_row : (x y : ℕ) → row_fields (record { bits = 16; values = 65536; least = 0 }) (record { bits = 1; values = 2; least = 0 }) x y ≡ endpoint_fields (drawn_endpoint x y)
unfolding row_fields taken endpoint_fields endpoint_widths drawn_endpoint
endpoint_row x y = ap₂ (λ (s b : ℕ). fields_of (16 ∷ 1 ∷ []) (s ∷ b ∷ [])) (add-zero (x % 65536)) (bit y)

pub link_row : (n x y : ℕ) → row_fields (record { bits = 8; values = n + 1; least = 0 }) (record { bits = 8; values = n + 1; least = 0 }) x y ≡ link_fields (8 ∷ 8 ∷ []) (drawn_link n x y)
unfolding row_fields taken link_fields drawn_link
link_row n x y = ap₂ (λ (s b : ℕ). fields_of (8 ∷ 8 ∷ []) (s ∷ b ∷ [])) (add-zero _) (add-zero _)

pub service_row : (n d x y : ℕ) → row_fields (record { bits = 8; values = n + 1; least = 0 }) (record { bits = 8; values = d; least = 1 }) x y ≡ link_fields (8 ∷ 8 ∷ []) (drawn_service_link n d x y)
unfolding row_fields taken link_fields drawn_service_link
service_row n d x y = ap (λ (s : ℕ). fields_of (8 ∷ 8 ∷ []) (s ∷ (y % d + 1) ∷ [])) (add-zero _)
