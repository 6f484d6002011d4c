-- `slot_rows` marks the held slots and the held near ones. Assumes nothing.
use mathlib.Core.List.{List}
use Prim.Native.Nat.{ℕ}
use Rattle.picture.specs.Picture.{picture_of}
use Rattle.network.specs.Words.{is_held}
use Rattle.network.specs.Tests.{is_near_held}
use Rattle.network.proofs.Making.{Above}
use Rattle.network.proofs.slot_rows.Given as goal

pub record Loop (s : List ℕ) (holding nearby : List ℕ) (v : ℕ) : Type 0 where
  pub held : Above (is_held (picture_of s)) holding v
  pub near : Above (is_near_held (picture_of s)) nearby v

abbrev pub invariant-loop-v : goal.invariant-loop-v
invariant-loop-v l = Loop l.p l.held l.near l.v
