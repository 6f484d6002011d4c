-- `location_feeders` says the block of each reached slot. Assumes nothing.
use mathlib.Core.Path.{◌≡◌, sym, ◌∙◌}
use native.Mathlib.Omega.{arith}
use Prim.Native.Nat.{◌-◌, ◌/◌}
use native.Mathlib.Nat.{div-mul-le_self}
use Rattle.picture.proofs.Facts.{read_sizes, read_slots_most}
use Rattle.lists.proofs.Storing.{stored_begun, stored_next, stored_left}
use Rattle.network.proofs.Blocks.{read_block_size, read_slots}
use Rattle.network.proofs.Candidates.{block_below}
use Rattle.price.proofs.Locations.{row_hit, row_miss, row_past, locations_told}
use Rattle.price.proofs.location_feeders.Goals as goal
use Rattle.price.proofs.location_feeders.Goals.{then-has, else-has}

pub loop-v-init : goal.loop-v-init
loop-v-init c =
    let r = c.header-h.ensures in
    stored_begun _ _ _ _ (λ u l. row_miss _ _ u (row_past c.requires u (omega (arith, read_slots _ _ r))))

pub has-requires : goal.has-requires
has-requires c = omega (arith, read_slots_most _ _ c.header-h.ensures)

pub nonzero_div-feeders : goal.nonzero_div-feeders
nonzero_div-feeders c = omega (arith, (read_sizes _ _ c.header-h.ensures).size_some)

pub overflow_cast-feeders : goal.overflow_cast-feeders
overflow_cast-feeders c =
    let s = read_sizes _ _ c.header-h.ensures in
    let v = c.loop-v.v in
    let size = c.header-h.result.block_size in
    omega (arith, block_below c.header-h.result.slots size ((v - 1) / size) s.multiple (omega (arith, div-mul-le_self (v - 1) size)), s.blocks_most)

pub bounds-feeders-v : goal.bounds-feeders-v
bounds-feeders-v c = omega (arith, read_slots_most _ _ c.header-h.ensures)

pub loop-v-preserved : goal.loop-v-preserved
loop-v-preserved c =
    let l = c.loop-v in
    elim c.if-has.branch [
      | then-has w ↦ rw w.feeders-is (stored_next _ _ _ l.feeders l.v (omega arith) (omega (arith, read_slots_most _ _ c.header-h.ensures)) l.invariant (row_hit _ _ l.v (sym c.has.ensures ∙ w.if-has.true)))
      | else-has w ↦ rw w.feeders-is (stored_left _ _ _ l.feeders l.v (omega arith) l.invariant (row_miss _ _ l.v (sym c.has.ensures ∙ w.if-has.false)))
    ]

pub returns : goal.returns
returns c = locations_told c.requires (read_block_size _ _ c.header-h.ensures) (rw none at c.loop-v.invariant)
  where
    none : c.loop-v.v ≡ 0
    none = omega arith
