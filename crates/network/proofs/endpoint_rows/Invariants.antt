-- `endpoint_rows` reads the endpoints' weights and marks the protected ones. Assumes nothing.
use mathlib.Core.List.{List}
use Prim.Native.Nat.{ℕ, suc}
use Rattle.lists.proofs.Storing.{Stored}
use Rattle.picture.specs.Layout.{endpoints_max}
use Rattle.picture.specs.Picture.{picture_of, endpoint_of}
use Rattle.network.specs.Words.{weight_of}
use Rattle.network.proofs.Making.{Above}
use Rattle.network.proofs.endpoint_rows.Given as goal

pub record Loop (s : List ℕ) (weights guarded : List ℕ) (c : ℕ) : Type 0 where
  pub weighed : Stored (suc endpoints_max) 0 (weight_of (picture_of s)) weights c
  pub protected : Above (λ c. (endpoint_of (picture_of s) c).protected) guarded c

abbrev pub invariant-loop-c : goal.invariant-loop-c
invariant-loop-c l = Loop l.p l.weights l.protected l.c
