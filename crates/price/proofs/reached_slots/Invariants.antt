-- `reached_slots` marks the held slots with a link from the origin. Assumes nothing.
use mathlib.Core.List.{List}
use Prim.Native.Nat.{ℕ}
use Rattle.picture.specs.Picture.{picture_of}
use Rattle.picture.specs.Rules.{no_link}
use Rattle.picture.proofs.Finding.{Scanning}
use Rattle.price.specs.Faults.{link_start_fault}
use Rattle.price.proofs.Reaching.{Reaching}
use Rattle.price.proofs.reached_slots.Given as goal

pub record Loop (s holding reached : List ℕ) (n i : ℕ) : Type 0 where
  pub scanned : Scanning link_start_fault no_link (picture_of s).links n i
  pub reaching : Reaching holding (picture_of s).links reached i

abbrev pub invariant-loop-i : goal.invariant-loop-i
invariant-loop-i l = Loop l.p l.held l.reached l.h.links l.i
