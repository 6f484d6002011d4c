-- What the code judges, by the first columns of the lists, is what the specification judges. Assumes nothing.
use mathlib.Core.Path.{◌≡◌, refl, sym, ap, ◌∙◌}
use mathlib.Core.List.{List, [], ◌∷◌, map}
use Prim.Native.Nat.{ℕ, ◌≤◌}
use lib.ListN.{length, length-map}
use Rattle.lists.specs.Lists.{first}
use Rattle.lists.proofs.Zips.{length_zip, map_zip_first}
use Rattle.picture.specs.declared.Header.{Header}
use Rattle.picture.specs.Layout.{picture_max, size_of}
use Rattle.picture.specs.Inner.{Limited}
use Rattle.picture.specs.Faults.{link_fault, service_link_fault, sizes_right, state_fault, list_faults}
use Rattle.write.specs.Columns.{Lists, slot_from, endpoint_from, link_from, picture_from, header_for}
use Rattle.picture.proofs.Editions.{known_for}
use Rattle.picture.proofs.Long.{size_small}
use Rattle.write.specs.Rules.{size_for}
use Rattle.write.specs.Faults.{write_fault}
use Rattle.write.specs.Inner.{columns_header}
use Rattle.write.proofs.Right.{edition_in, header_from, Right}
use Rattle.write.proofs.Judged.{write_right}

-- the first faults of the states, of the links and of the service links
abbrev pub column_faults : Lists → Header → List ℕ
column_faults l h =
    first (map state_fault l.states)
    ∷ first (map (link_fault h.slots) (map link_from l.links))
    ∷ first (map (service_link_fault h.slots h.endpoints) (map link_from l.service_links))
    ∷ []

module _ (l : Lists) (slots : length l.states ≡ length l.near) where
  pub sizes_even : sizes_right (columns_header l) ≡ sizes_right (header_from l)
  unfolding sizes_right columns_header header_for picture_from
  sizes_even = rw (length_zip slot_from l.states l.near slots)

  module _ (endpoints : length l.weights ≡ length l.protected) where
    pub header_even : columns_header l ≡ header_from l
    unfolding columns_header header_for picture_from
    header_even = λ i.
        record {
          edition = edition_in l;
          block_size = l.block_size;
          slots = sym (length_zip slot_from l.states l.near slots) i;
          near_limit = l.near_limit;
          endpoints = sym (length_zip endpoint_from l.weights l.protected endpoints) i;
          links = sym (length-map l.links link_from) i;
          service_links = sym (length-map l.service_links link_from) i;
        }

    pub lists_even : column_faults l (columns_header l) ≡ list_faults (header_from l) (picture_from l)
    unfolding list_faults
    lists_even =
        let states = map_zip_first slot_from (λ s. state_fault s.state) state_fault (λ x b. unfold slot_from in refl) l.states l.near slots in
        ap (column_faults l) header_even ∙ unfold picture_from in rw states

-- ---- where the lists keep their rules

module _ {l : Lists} (r : Right l) where
  -- the header by the first columns is the picture's
  pub right_header : columns_header l ≡ header_from l
  right_header = header_even l r.slots_even r.endpoints_even

  pub right_limited : Limited (columns_header l)
  right_limited = rw right_header (record { known = unfold header_for in known_for l.edition; slots = r.sizes.slots_most; counts = r.counts })

  pub right_size : size_of (columns_header l) ≡ size_for l
  unfolding size_for
  right_size = ap (size_of) right_header

-- no picture that is written is longer than the longest
pub size_most : (l : Lists) (buf : List ℕ) → write_fault l buf ≡ 0 → size_for l ≤ picture_max
size_most l buf z =
    let r = (write_right l buf z).0 in
    rw (← right_size r) (size_small (columns_header l) (right_limited r))
