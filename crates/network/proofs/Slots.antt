-- The rows of the held and the held near slots, once every slot is looked at. Assumes nothing.
use mathlib.Core.Path.{◌≡◌, refl, sym, ap, ◌∙◌, subst}
use mathlib.Core.Bool.{Bool, true, false, ◌&&◌, ◌||◌, and-false}
use mathlib.Core.Logic.{by_cases}
use mathlib.Core.List.{List}
use Prim.Native.Nat.{ℕ, zero, suc, ◌≤◌, ◌<◌}
use native.Mathlib.Omega.{arith}
use native.Mathlib.Decide.{dec_lt}
use native.Mathlib.Nat.{not-suc-le-zero}
use borrow.Author.Tests.{le-leb, lt-ltb}
use lib.Dec.{T, leb, ltb, eqb, ltb→lt, eqb-suc-zero}
use lib.ListN.{length}
use Rattle.lists.proofs.Tests.{T?, is_false, and_T}
use Rattle.rows.specs.Rows.{marked, slots_max}
use Rattle.graph.specs.Held.{held_in}
use Rattle.picture.specs.Picture.{Slot, Picture, slot_of}
use Rattle.picture.proofs.Starts.{slot_past}
use Rattle.network.specs.Words.{slot_count, is_held}
use Rattle.network.specs.Tests.{is_near_held}
use Rattle.network.specs.Rows.{HeldRow, SlotRowsOf}
use Rattle.network.proofs.Candidates.{near_slot}
use Rattle.network.proofs.Making.{Scanned, Above}

-- past the slots the state is that of a freed one
pub state_within : (f : ℕ → Bool) → ¬ T (f 2) → (p : Picture) (i : ℕ) → T (f (slot_of p (suc i)).state) → i < length p.slots
state_within f n p i t = by_cases (dec_lt i (length p.slots)) (λ s. s) (λ g. absurd (n (subst (λ (x : Slot). T (f x.state)) (slot_past p i (omega arith)) t)))

pub none_past : (p : Picture) (f : ℕ → Bool) → ((v : ℕ) → 1 ≤ v → T (f v) → v ≤ length p.slots) → (v : ℕ) → length p.slots < v → f v ≡ false
none_past p f own v l = is_false (f v) (λ t. absurd (omega (arith, own v (omega arith) t)))

-- so there is nothing there that is held
pub held_within : (p : Picture) (v : ℕ) → 1 ≤ v → T (is_held p v) → v ≤ length p.slots
unfolding is_held
held_within p zero l t = absurd (not-suc-le-zero l)
held_within p (suc i) l t = state_within (λ s. eqb s 0) (λ x. x) p i t

pub held_past : (p : Picture) (v : ℕ) → length p.slots < v → is_held p v ≡ false
held_past p = none_past p (is_held p) (held_within p)

-- and no other number is that of a near slot
pub near_outside : (p : Picture) (v : ℕ) → ¬ ((1 ≤ v) × (v ≤ length p.slots)) → is_near_held p v ≡ false
unfolding is_near_held slot_count
near_outside p v n = is_false (is_near_held p v) (λ t. n (near_slot p v (and_T (is_held p v) (slot_of p v).near t).1))

-- a place at which f does not hold, or that was looked at, is marked exactly where f holds
scanned_at : (f : ℕ → Bool) (row : List ℕ) (v : ℕ) → Scanned f row v → (u : ℕ) → (T (f u) → (1 ≤ u) × (u < v)) → marked row u ≡ f u
scanned_at f row v s u h = s.same u ∙ by_cases (T? (f u)) yes_there no_there
  where
    yes_there : T (f u) → (leb 1 u && (ltb u v && f u)) ≡ f u
    yes_there t = rw (le-leb 1 u (h t).0, lt-ltb u v (h t).1)

    no_there : ¬ T (f u) → (leb 1 u && (ltb u v && f u)) ≡ f u
    no_there n = simp (is_false (f u) n, and-false)

-- where every place at which f holds was looked at, the row marks exactly those
pub scanned_all : (f : ℕ → Bool) (row : List ℕ) (v : ℕ) → Scanned f row v → ((u : ℕ) → T (f u) → (1 ≤ u) × (u < v)) → (u : ℕ) → marked row u ≡ f u
scanned_all f row v s h u = scanned_at f row v s u (h u)

-- every slot was looked at: the row marks those that hold the bundle, where the origin does and past the slots nothing
pub slot_looked : (p : Picture) (held : ℕ → Bool) (row : List ℕ) (v : ℕ) → held 0 ≡ true → ((u : ℕ) → 1 ≤ u → T (held u) → u ≤ length p.slots)
    → length p.slots ≤ slots_max → v < 1 → Above held row v → HeldRow p held row
unfolding held_in slot_count
slot_looked p held row v origin own m z s =
    record {
      only = record { most = m; above = λ u t. ltb→lt 0 u (seen u t).0; within = λ u t. own u (ltb→lt 0 u (seen u t).0) (seen u t).1 };
      same = same;
    }
  where
    none : v ≡ 0
    none = omega arith

    seen : (u : ℕ) → T (marked row u) → T (ltb 0 u) × T (held u)
    seen u t = and_T (ltb 0 u) (held u) (subst T (rw none at s.same u) t)

    same : (u : ℕ) → held_in row u ≡ held u
    same zero = sym origin
    same (suc i) =
        ap (λ (b : Bool). b || marked row (suc i)) (eqb-suc-zero i)
        ∙ rw none at s.same (suc i) ∙ rw (lt-ltb 0 (suc i) (omega arith))

pub slots_looked : (p : Picture) (holding nearby : List ℕ) (v : ℕ) → length p.slots ≤ slots_max → v < 1 → Above (is_held p) holding v
    → Above (is_near_held p) nearby v → SlotRowsOf p holding nearby
unfolding is_held
slots_looked p holding nearby v m z s r =
    record { held = slot_looked p (is_held p) holding v refl (held_within p) m z s; near = λ u. rw none at r.same u ∙ near u }
  where
    none : v ≡ 0
    none = omega arith

    near : (u : ℕ) → (ltb 0 u && is_near_held p u) ≡ is_near_held p u
    near zero = simp (near_outside p 0 (λ i. absurd (omega (arith, i.0))))
    near (suc i) = rw (lt-ltb 0 (suc i) (omega arith))
