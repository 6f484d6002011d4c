-- `slot_rows` marks the held slots and the held near ones. Assumes nothing.
use mathlib.Core.Path.{◌≡◌, sym, ◌∙◌}
use mathlib.Core.Bool.{Bool, true, false}
use native.Mathlib.Omega.{arith}
use Prim.Native.Nat.{ℕ, ◌-◌, ◌≤◌}
use Rattle.rows.specs.Rows.{row_words}
use Rattle.picture.specs.Picture.{Picture, picture_of, slot_of}
use Rattle.picture.proofs.Facts.{read_slots_length, read_slots_most}
use Rattle.network.specs.Words.{is_held}
use Rattle.network.specs.Tests.{is_near_held}
use Rattle.network.proofs.Slots.{held_past, near_outside, slots_looked}
use Rattle.network.proofs.Making.{Above, above_begun, above_hit, above_miss}
use Rattle.network.proofs.slot_rows.Goals as goal
use Rattle.network.proofs.slot_rows.Goals.{At-loop-v, Joined-is_held, then-is_held+then-is_near, then-is_held+else-is_near, else-is_held}

-- a held slot is told by its near mark, and another one is not looked at
near_told : (p : Picture) (v : ℕ) {near : Bool} → is_held p v ≡ true → near ≡ (slot_of p v).near → is_near_held p v ≡ near
unfolding is_near_held
near_told p v h e = rw h (sym e)

far_told : (p : Picture) (v : ℕ) → is_held p v ≡ false → is_near_held p v ≡ false
unfolding is_near_held
far_told p v h = rw h

-- the slot at hand is looked at, and marked where it is held, and where it is near too
looked : (c : Joined-is_held) → let p = picture_of c.args.p.now in
    Above (is_held p) c.if-is_held.held (c.loop-v.v - 1) × Above (is_near_held p) c.if-is_held.near (c.loop-v.v - 1)
looked c =
    let l = c.loop-v in
    let i = l.invariant in
    let held = sym c.is_held.ensures in
    let some : 1 ≤ l.v = omega arith in
    elim c.if-is_held.branch [
      | then-is_held+then-is_near w ↦
          let near = near_told _ l.v (held ∙ w.if-is_held.true) w.is_near.ensures in
          rw (w.held-is, w.near-is) (
            above_hit _ _ _ l.v some i.held (held ∙ w.if-is_held.true) w.add.ensures,
            above_hit _ _ _ l.v some i.near (near ∙ w.if-is_near.true) w.add-then-is_near.ensures,
          )
      | then-is_held+else-is_near w ↦
          let near = near_told _ l.v (held ∙ w.if-is_held.true) w.is_near.ensures in
          rw (w.held-is, w.near-is) (
            above_hit _ _ _ l.v some i.held (held ∙ w.if-is_held.true) w.add.ensures,
            above_miss _ _ l.v some i.near (near ∙ w.if-is_near.false),
          )
      | else-is_held w ↦
          rw (w.held-is, w.near-is)
          (above_miss _ _ l.v some i.held (held ∙ w.if-is_held.false), above_miss _ _ l.v some i.near (far_told _ l.v (held ∙ w.if-is_held.false)))
    ]

pub loop-v-init : goal.loop-v-init
loop-v-init c =
    let p = picture_of c.args.p.now in
    let n = read_slots_length _ _ c.header-n.ensures in
    record {
      held = above_begun (is_held p) row_words _ (λ u l. held_past p u (omega (arith, n)));
      near = above_begun (is_near_held p) row_words _ (λ u l. near_outside p u (λ i. absurd (omega (arith, n, i.1))));
    }

pub add-requires : goal.add-requires
add-requires c = omega (arith, read_slots_most _ _ c.header-n.ensures)

pub add-requires-then-is_near : goal.add-requires-then-is_near
add-requires-then-is_near c = omega (arith, read_slots_most _ _ c.header-n.ensures)

pub loop-v-preserved : goal.loop-v-preserved
loop-v-preserved c =
    let all = looked (goal.at.loop-v-preserved c).Joined-is_held in
    record { held = all.0; near = all.1 }

pub returns : goal.returns
returns c =
    let i = c.loop-v.invariant in
    slots_looked _ _ _ c.loop-v.v (omega (arith, read_slots_length _ _ c.header-n.ensures, read_slots_most _ _ c.header-n.ensures)) (omega arith) i.held i.near
