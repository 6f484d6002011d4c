-- What is held or recoverable, by a slot's state; and after an act: evict and reload leave it as it was, and free takes the block from it. Assumes
-- nothing.
use mathlib.Core.Path.{◌≡◌, refl, ap, ap₂, ◌∙◌}
use mathlib.Core.Bool.{Bool, true, false, not, ◌&&◌, ◌||◌, cond, and-true, and-false, or-true}
use Prim.Native.Nat.{ℕ, zero, suc, ◌≤◌}
use native.Mathlib.Omega.{arith}
use denote.Enum.Bare.{sameb}
use lib.Dec.{T, eqb}
use lib.ListN.{length}
use Rattle.picture.specs.contracts.State.{the_type}
use Rattle.picture.specs.declared.State.{State}
use Rattle.picture.specs.declared.State.TheVariants.{Held, Recoverable, Freed}
use Rattle.picture.specs.Layout.{state_number}
use Rattle.picture.specs.Picture.{Picture, Slot, slot_of}
use Rattle.network.specs.Words.{in_block, is_held, without_block}
use Rattle.network.proofs.Slots.{state_within}
use Rattle.acts.specs.declared.Act.{Act}
use Rattle.acts.specs.declared.Act.TheVariants.{Evict, Reload, Free}
use Rattle.acts.specs.Acts.{after, held_or_recoverable, slot_after, act_on}
use Rattle.acts.proofs.Slots.{slot_acted}
use Rattle.acts.proofs.Evicted.{free_empties, emptied_state, freed_held}

-- ---- a state

-- that of a held or of a recoverable slot
unfreed : ℕ → Bool
unfreed s = eqb s 0 || eqb s 1

-- in the code it is one that is not freed
unfreed_told : (s : State) → not (sameb the_type s Freed) ≡ unfreed (state_number s)
unfolding unfreed
unfreed_told Held = refl
unfreed_told Recoverable = refl
unfreed_told Freed = refl

module _ (p : Picture) where
  pub slot_told : (v : ℕ) (s : State) → 1 ≤ v → state_number s ≡ (slot_of p v).state → not (sameb the_type s Freed) ≡ held_or_recoverable p v
  unfolding held_or_recoverable is_held unfreed
  slot_told zero s l e = absurd (omega arith)
  slot_told (suc i) s l e = unfreed_told s ∙ ap unfreed e

  -- past the slots there is nothing that is held or recoverable
  pub recoverable_within : (v : ℕ) → 1 ≤ v → T (held_or_recoverable p v) → v ≤ length p.slots
  unfolding held_or_recoverable is_held unfreed
  recoverable_within zero l t = absurd (omega arith)
  recoverable_within (suc i) l t = state_within unfreed (λ x. x) p i t

  pub origin_recoverable : held_or_recoverable p 0 ≡ true
  unfolding held_or_recoverable is_held
  origin_recoverable = refl

-- ---- after an act

-- an act that frees nothing
pub record FreesNothing (a : Act) : Type 0 where
  pub same : (s : ℕ) → (eqb (after a s) 0 || eqb (after a s) 1) ≡ (eqb s 0 || eqb s 1)

pub evict_frees_nothing : FreesNothing Evict
unfolding after
evict_frees_nothing = record { same = λ s. go s (eqb s 0) refl }
  where
    go : (s : ℕ) (y : Bool) → eqb s 0 ≡ y → (eqb (cond y 1 s) 0 || eqb (cond y 1 s) 1) ≡ (eqb s 0 || eqb s 1)
    go s true e = rw e
    go s false e = refl

pub reload_frees_nothing : FreesNothing Reload
unfolding after
reload_frees_nothing = record { same = λ s. go s (eqb s 1) refl }
  where
    go : (s : ℕ) (y : Bool) → eqb s 1 ≡ y → (eqb (cond y 0 s) 0 || eqb (cond y 0 s) 1) ≡ (eqb s 0 || eqb s 1)
    go s true e = rw (e, or-true)
    go s false e = refl

module _ (p : Picture) (b : ℕ) where
  pub recoverable_same : {a : Act} → FreesNothing a → (v : ℕ) → held_or_recoverable (act_on a p b) v ≡ held_or_recoverable p v
  unfolding held_or_recoverable is_held slot_after
  recoverable_same n zero = refl
  recoverable_same {a} n (suc i) = ap (λ (s : Slot). eqb s.state 0 || eqb s.state 1) (slot_acted a p b (suc i)) ∙ go (in_block p b (suc i))
    where
      s : ℕ
      s = (slot_of p (suc i)).state

      go : (x : Bool) → (eqb (cond x (after a s) s) 0 || eqb (cond x (after a s) s) 1) ≡ (eqb s 0 || eqb s 1)
      go true = n.same s
      go false = refl

  or_and : (x y z : Bool) → ((x && z) || (y && z)) ≡ ((x || y) && z)
  or_and x y true = rw (and-true x, and-true y, and-true (x || y)) refl
  or_and x y false = rw (and-false x, and-false y, and-false (x || y)) refl

  pub freed_away : (v : ℕ) → held_or_recoverable (act_on Free p b) v ≡ without_block p (held_or_recoverable p) b v
  unfolding held_or_recoverable without_block
  freed_away v =
      ap₂ ◌||◌ (freed_held p b v) (emptied_state {f = λ s. eqb s 1} (free_empties refl) p b v)
      ∙ or_and (is_held p v) (eqb (slot_of p v).state 1) (not (in_block p b v))
