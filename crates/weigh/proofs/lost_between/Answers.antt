-- `lost_between` sums over the endpoints that are lost. Assumes nothing.
use mathlib.Core.Path.{◌≡◌, refl, sym, ◌∙◌}
use native.Mathlib.Omega.{arith}
use native.Mathlib.Nat.{sub_self}
use mathlib.Core.Bool.{Bool, ◌&&◌, ◌||◌, and-false}
use Prim.Native.Nat.{◌+◌}
use lib.ListN.{get_or}
use Rattle.lists.specs.Lists.{on}
use Rattle.rows.specs.Rows.{marked}
use Rattle.weigh.proofs.Picking.{picking_begun, picking_next, picking_ended}
use Rattle.weigh.proofs.lost_between.Goals as goal
use Rattle.weigh.proofs.lost_between.Goals.{Joined-is_lost, else-is_lost, then-is_lost+else-has, then-is_lost+then-has}

-- a lost endpoint's weight is added, it is counted, and it sets the mark if it is protected
looked : (c : Joined-is_lost) → let lost = c.is_lost.result in
    (c.if-is_lost.weight ≡ c.loop-c.weight + on lost (get_or c.args.weights.now c.loop-c.c 0)) × (c.if-is_lost.count ≡ c.loop-c.count + on lost 1)
    × ((m : Bool) → c.loop-c.mark ≡ on m 1 → c.if-is_lost.mark ≡ on ((marked c.args.protected c.loop-c.c && lost) || m) 1)
unfolding on
looked c =
    elim c.if-is_lost.branch [
      | then-is_lost+then-has w ↦
          let protected = sym w.has.ensures ∙ w.if-has.true in
          rw (w.weight-is, w.count-is, w.mark-is, w.if-is_lost.true, protected) (omega arith, omega arith, λ m e. refl)
      | then-is_lost+else-has w ↦
          let free = sym w.has.ensures ∙ w.if-has.false in
          rw (w.weight-is, w.count-is, w.mark-is, w.if-is_lost.true, free) (omega arith, omega arith, λ m e. e)
      | else-is_lost w ↦ rw (w.weight-is, w.count-is, w.mark-is, w.if-is_lost.false, and-false) (omega arith, omega arith, λ m e. e)
    ]

pub loop-c-init : goal.loop-c-init
loop-c-init c = rw sub_self (picking_begun _ _ _ _ _ _)

pub loop-c-preserved : goal.loop-c-preserved
loop-c-preserved c =
    let l = c.loop-c in
    let all = looked (goal.at.loop-c-preserved c).Joined-is_lost in
    picking_next _ _ _ _ _ l.c _ _ _ (omega arith) (omega arith) _ c.is_lost.ensures _ _ l.invariant (c.requires.0.weight l.c) all.0 all.1 all.2

pub returns : goal.returns
returns c = picking_ended _ _ _ _ _ _ c.loop-c.c _ _ (omega arith) (omega arith) c.loop-c.invariant
