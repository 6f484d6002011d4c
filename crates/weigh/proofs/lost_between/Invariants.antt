-- `lost_between` sums over the endpoints that are lost. Assumes nothing.
use Prim.Native.Nat.{◌-◌}
use Rattle.weigh.proofs.Picking.{Picking}
use Rattle.weigh.proofs.lost_between.Given as goal

abbrev pub invariant-loop-c : goal.invariant-loop-c
invariant-loop-c l = Picking l.services l.weights l.protected l.before l.after (record { weight = l.weight; count = l.count; mark = l.mark }) l.c (l.d - l.c)
