-- A slot's state as it was read. Assumes nothing.
use mathlib.Core.Path.{◌≡◌, refl, subst, ◌∙◌}
use Prim.Native.Nat.{ℕ}
use Rattle.std.specs.Prelude.{Result, Ok, Err, IsOk}
use lib.Dec.{eqb}
use denote.Enum.Bare.{sameb}
use Rattle.picture.specs.contracts.State.{the_type}
use Rattle.picture.specs.declared.State.{State}
use Rattle.picture.specs.declared.State.TheVariants.{Held, Recoverable, Freed}
use Rattle.picture.specs.declared.refusals.Refusal.{Refusal}
use Rattle.picture.specs.Layout.{state_number}
use Rattle.picture.specs.Faults.{state_fault}
use Rattle.picture.specs.Inner.{StateOf}
use Rattle.picture.proofs.Refusing.{number_some}

-- a number without a fault is that of a state
pub state_read : (k : ℕ) (r : Result State Refusal) → StateOf k r → state_fault k ≡ 0 → IsOk r
state_read k (Ok s) h z = refl
state_read k (Err e) h z = absurd (number_some e (h ∙ z))

-- and the state has it
pub state_of_read : {k : ℕ} {r : Result State Refusal} {s : State} → r ≡ Ok s → StateOf k r → state_number s ≡ k
state_of_read {k} q h = (subst (StateOf k) q h).0

-- two states are the same where their numbers are
pub same_number : (s t : State) → sameb the_type s t ≡ eqb (state_number s) (state_number t)
same_number Held Held = refl
same_number Held Recoverable = refl
same_number Held Freed = refl
same_number Recoverable Held = refl
same_number Recoverable Recoverable = refl
same_number Recoverable Freed = refl
same_number Freed Held = refl
same_number Freed Recoverable = refl
same_number Freed Freed = refl
