-- `size_of` counts the bytes that a header asks for. Assumes nothing.
use mathlib.Core.Path.{ap}
use native.Mathlib.Omega.{arith}
use Prim.Native.Nat.{◌+◌, ◌/◌}
use Rattle.picture.specs.Layout.{size_of}
use Rattle.picture.specs.Inner.{places_of}
use Rattle.picture.specs.declared.Places.{Places}
use Rattle.picture.proofs.Starts.{ordered}
use Rattle.picture.proofs.size_of.Goals as goal

pub overflow_add-result : goal.overflow_add-result
unfolding places_of
overflow_add-result c = omega (arith, ordered _ c.requires, ap (λ (p : Places). p.end) c.find_places.ensures)

pub returns : goal.returns
unfolding places_of size_of
returns c = ap (λ (p : Places). (p.end + 7) / 8) c.find_places.ensures
