-- Blocks of an accepted picture, by its header. Assumes nothing.
use mathlib.Core.Path.{◌≡◌, refl, sym, ap, ap₂, ◌∙◌}
use mathlib.Core.List.{List}
use Prim.Native.Nat.{ℕ, suc, ◌+◌, ◌*◌, ◌/◌, ◌≤◌, ◌<◌}
use native.Mathlib.Omega.{arith}
use native.Mathlib.Nat.{suc-mul, mul-le-mul_right, div-mul-le_self}
use Rattle.rows.specs.Rows.{slots_max}
use Rattle.picture.specs.declared.Header.{Header}
use Rattle.picture.specs.Layout.{blocks_max}
use Rattle.picture.specs.Picture.{Picture, header_of, picture_of, picture_with}
use Rattle.picture.specs.Faults.{picture_fault}
use Rattle.picture.specs.Inner.{Read}
use Rattle.picture.proofs.Accepted.{accepted_kept}
use Rattle.picture.proofs.Facts.{read_picture, read_slots_most, read_slots_length, read_endpoints_length}
use Rattle.network.specs.Words.{slot_count, endpoint_count, block_count}

-- the last slot of a block below n / size is at most n
pub block_fits : (n size b : ℕ) → b < n / size → b * size + size ≤ n
block_fits n size b h =
    let e : suc b * size ≤ n / size * size = mul-le-mul_right size h in
    omega (arith, suc-mul b size, div-mul-le_self n size)

module _ (bs : List ℕ) (h : Header) (r : Read bs h) where
  pub read_block_size : (picture_of bs).block_size ≡ h.block_size
  read_block_size = ap (λ (p : Picture). p.block_size) (sym (read_picture bs h r)) ∙ unfold picture_with in refl

  pub read_slots : slot_count (picture_of bs) ≡ h.slots
  unfolding slot_count
  read_slots = read_slots_length bs h r

  pub read_endpoints : h.endpoints ≡ endpoint_count (picture_of bs)
  unfolding endpoint_count
  read_endpoints = sym (read_endpoints_length bs h r)

  pub read_blocks : h.slots / h.block_size ≡ block_count (picture_of bs)
  unfolding block_count
  read_blocks = sym (ap₂ (λ (x y : ℕ). x / y) read_slots read_block_size)

  -- a block's slots are among the locations of the rows
  pub read_block : (b : ℕ) → b < block_count (picture_of bs) → b * h.block_size + h.block_size ≤ slots_max
  read_block b l =
      let f : b * h.block_size + h.block_size ≤ h.slots = block_fits h.slots h.block_size b (rw read_blocks l) in
      omega (arith, read_slots_most bs h r)

-- an accepted picture has few blocks
pub blocks_small : (bs : List ℕ) → picture_fault bs ≡ 0 → block_count (picture_of bs) ≤ blocks_max
blocks_small bs z = omega (arith, read_blocks bs (header_of bs) (record { accepted = z; header = refl }), (accepted_kept bs z).sizes.blocks_most)
