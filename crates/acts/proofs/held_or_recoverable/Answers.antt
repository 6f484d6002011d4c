-- `held_or_recoverable` marks the slots that are held or recoverable. Assumes nothing.
use mathlib.Core.Path.{◌≡◌, sym, ◌∙◌}
use native.Mathlib.Omega.{arith}
use Rattle.rows.specs.Rows.{row_words}
use Rattle.picture.specs.Picture.{picture_of}
use Rattle.picture.proofs.Facts.{read_slots_length, read_slots_most}
use Rattle.network.proofs.Making.{above_begun, above_hit, above_miss}
use Rattle.network.proofs.Slots.{none_past, slot_looked}
use Rattle.acts.specs.Acts.{held_or_recoverable}
use Rattle.acts.proofs.Recoverable.{slot_told, recoverable_within, origin_recoverable}
use Rattle.acts.proofs.held_or_recoverable.Goals as goal
use Rattle.acts.proofs.held_or_recoverable.Goals.{Joined-ne, then-ne, else-ne}

pub loop-v-init : goal.loop-v-init
loop-v-init c =
    let p = picture_of c.args.p.now in
    above_begun (held_or_recoverable p) row_words _ (λ u l. none_past p (held_or_recoverable p) (recoverable_within p) u (omega (arith, read_slots_length _ _ c.header-v.ensures)))

pub add-requires : goal.add-requires
add-requires c = omega (arith, read_slots_most _ _ c.header-v.ensures)

-- the slot at hand is told by its state
told : (c : Joined-ne) → held_or_recoverable (picture_of c.args.p.now) c.loop-v.v ≡ c.ne.result
told c = sym (c.ne.ensures ∙ slot_told (picture_of c.args.p.now) c.loop-v.v _ (omega arith) c.slot_state.ensures)

pub loop-v-preserved : goal.loop-v-preserved
loop-v-preserved c =
    let l = c.loop-v in
    elim c.if-ne.branch [
      | then-ne w ↦ rw w.slots-is (above_hit _ _ _ l.v (omega arith) l.invariant (told c ∙ w.if-ne.true) w.add.ensures)
      | else-ne w ↦ rw w.slots-is (above_miss _ _ l.v (omega arith) l.invariant (told c ∙ w.if-ne.false))
    ]

pub returns : goal.returns
returns c =
    let p = picture_of c.args.p.now in
    let read = c.header-v.ensures in
    slot_looked p (held_or_recoverable p) _ c.loop-v.v (origin_recoverable p) (recoverable_within p)
    (omega (arith, read_slots_length _ _ read, read_slots_most _ _ read)) (omega arith) c.loop-v.invariant
