-- The slots of a block of an accepted picture, by its header. Assumes nothing.
use mathlib.Core.Path.{◌≡◌, refl, sym, ap, ◌∙◌, subst}
use mathlib.Core.Bool.{Bool, not, ◌&&◌, and_comm}
use mathlib.Core.List.{List}
use Prim.Native.Nat.{ℕ, ◌+◌, ◌*◌, ◌≤◌, ◌<◌}
use native.Mathlib.Numerals.{add-one}
use Rattle.rows.specs.Rows.{slots_max}
use lib.Dec.{eqb, leb, ltb}
use lib.ListN.{length}
use Rattle.lists.specs.Lists.{range, any}
use Rattle.picture.specs.declared.Header.{Header}
use Rattle.picture.specs.Layout.{size_of}
use Rattle.picture.specs.Picture.{Picture, picture_of, picture_with, slot_of}
use Rattle.picture.specs.Inner.{Read}
use Rattle.picture.proofs.Accepted.{accepted_kept}
use Rattle.picture.proofs.Facts.{read_picture, read_slots_most}
use Rattle.network.specs.Words.{block_count, in_block, is_held}
use Rattle.network.specs.Tests.{is_near_held}
use Rattle.network.proofs.Blocks.{block_fits, read_block_size, read_blocks}
use Rattle.network.proofs.Candidates.{held_state}
use Rattle.acts.specs.declared.Act.{Act}
use Rattle.acts.specs.Faults.{changes}
use Rattle.acts.specs.Acts.{after, block_slots}

-- the block's last slot is at most n, which is a small number
pub record Within (h : Header) (b : ℕ) : Type 0 where
  pub last : b * h.block_size + h.block_size ≤ h.slots
  pub most : h.slots ≤ slots_max

-- the act changes slot v
abbrev pub changed : Act → Picture → ℕ → Bool
changed a p v = not (eqb (after a (slot_of p v).state) (slot_of p v).state)

module _ (bs : List ℕ) (h : Header) (r : Read bs h) where
  pub read_within : (b : ℕ) → b < block_count (picture_of bs) → Within h b
  read_within b l = record { last = block_fits h.slots h.block_size b (rw (read_blocks bs h r) l); most = read_slots_most bs h r }

  -- the bytes are as many as the header asks for
  pub read_long : size_of h ≤ length bs
  read_long = subst (λ (k : Header). size_of k ≤ length bs) (sym r.header) (accepted_kept bs r.accepted).long

  -- κ
  pub read_near_limit : h.near_limit ≡ (picture_of bs).near_limit
  read_near_limit = sym (ap (λ (p : Picture). p.near_limit) (sym (read_picture bs h r)) ∙ unfold picture_with in refl)

  -- the slots of a block
  pub read_block_slots : (b : ℕ) → range (b * h.block_size + 1) h.block_size ≡ block_slots (picture_of bs) b
  unfolding block_slots
  read_block_slots b = ap (λ (k : ℕ). range (b * k + 1) k) (sym (read_block_size bs h r))

  pub read_changes : (a : Act) (b : ℕ) → any (changed a (picture_of bs)) (range (b * h.block_size + 1) h.block_size) ≡ changes a (picture_of bs) b
  unfolding changes
  read_changes a b = ap (any (changed a (picture_of bs))) (read_block_slots b)

  pub read_in_block : (b v : ℕ) → in_block (picture_of bs) b v ≡ (ltb (b * h.block_size) v && leb v (b * h.block_size + h.block_size))
  unfolding in_block
  read_in_block b v =
      ap (λ (k : ℕ). leb (b * k + 1) v && leb v (b * k + k)) (read_block_size bs h r)
      ∙ ap (λ (k : ℕ). leb k v && leb v (b * h.block_size + h.block_size)) (add-one _)

-- a slot that is near and in state 0 is held and near
pub near_held : (p : Picture) (v : ℕ) → 1 ≤ v → ((slot_of p v).near && eqb (slot_of p v).state 0) ≡ is_near_held p v
unfolding is_near_held
near_held p v l = rw (held_state p v l) (and_comm (slot_of p v).near (is_held p v))
