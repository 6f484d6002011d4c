-- The locations that a row holds. Assumes nothing.
use mathlib.Core.List.{List}
use mathlib.Core.Logic.{by_cases}
use mathlib.Core.Path.{◌≡◌}
use Prim.Native.Nat.{ℕ, ◌≤◌, ◌<◌}
use native.Mathlib.Omega.{arith}
use native.Mathlib.Decide.{ℕ_discrete}
use borrow.Author.Tests.{ne_eqb}
use lib.Dec.{T}
use Rattle.rows.specs.Rows.{marked}
use Rattle.graph.specs.Held.{held_in, SlotsOnly}

-- a slot is held where the row marks it
pub slot_held : (held : List ℕ) (v : ℕ) → 0 < v → marked held v ≡ held_in held v
unfolding held_in
slot_held held v l = rw (ne_eqb v 0 (omega arith))

module _ {n : ℕ} {held : List ℕ} (only : SlotsOnly n held) where
  -- no location above slot n is held
  pub held_within : (v : ℕ) → T (held_in held v) → v ≤ n
  held_within v t =
      by_cases (ℕ_discrete v 0) (λ e. omega arith) (λ ne. only.within v (rw (← slot_held held v (omega arith)) at t))
