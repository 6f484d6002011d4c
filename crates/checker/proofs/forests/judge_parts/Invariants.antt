-- `judge_parts` goes over the parts of evidence up to the first fault. Assumes nothing.
use mathlib.Core.Path.{◌≡◌}
use mathlib.Core.List.{List}
use Prim.Native.Nat.{ℕ, ◌+◌, ◌-◌, ◌≤◌}
use Rattle.rows.specs.declared.Range.{Range}
use Rattle.checker.proofs.Going.{Given, given, Gone, Counted, PartAt, Seen, Inside, Shut}
use Rattle.std.specs.Prelude.{Result, Ok}
use Rattle.picture.specs.declared.refusals.Refusal.{Refusal}
use Rattle.checker.proofs.forests.judge_parts.Given as goal

-- the slots below v are followed, without a fault
pub record Slots (x : Given) (row : List ℕ) (k at : ℕ) (evicted : Range) (fault : Result (Unit {0}) Refusal) (slots : List ℕ) (v : ℕ) : Type 0 where
  pub some : 1 ≤ v
  pub none : fault ≡ Ok tt
  pub part : PartAt x row k at evicted
  pub seen : Seen x at slots v

-- the links of the locations below a are looked at, without a fault
pub record Links (x : Given) (row : List ℕ) (k : ℕ) (evicted : Range) (inner outer : List ℕ) (fault : Result (Unit {0}) Refusal) (a : ℕ) : Type 0 where
  pub none : fault ≡ Ok tt
  pub inside : Inside x row k evicted inner outer
  pub shut : Shut x evicted inner outer a

-- the parts before k are gone over, without a fault
pub record Parts (x : Given) (cuts row : List ℕ) (fault : Result (Unit {0}) Refusal) (k : ℕ) : Type 0 where
  pub none : fault ≡ Ok tt
  pub gone : Gone x row k
  pub counted : Counted x cuts k

abbrev pub invariant-loop-v : goal.invariant-loop-v
invariant-loop-v l = Slots (given l.p l.ev l.held l.h l.count l.words l.tables) l.now l.k l.at l.evicted l.fault l.slots l.v

abbrev pub invariant-loop-a : goal.invariant-loop-a
invariant-loop-a l =
    Links (given l.p l.ev l.held l.h l.count l.words l.tables) l.now l.k l.evicted l.inside l.outside l.fault l.a

abbrev pub invariant-check : goal.invariant-check
invariant-check l = Parts (given l.p l.ev l.held l.h l.count l.words l.tables) l.cuts l.now l.fault l.k

abbrev pub decreases-loop-v : goal.decreases-loop-v
decreases-loop-v l = l.n + 1 - l.v
