-- A test of every element of a list, or of every number of a range, by its elements. Assumes nothing.
use mathlib.Core.Path.{◌≡◌, ◌∙◌}
use mathlib.Core.Bool.{Bool}
use mathlib.Core.List.{List, [], ◌∷◌}
use Prim.Native.Nat.{ℕ, suc, ◌+◌, ◌-◌, ◌≤◌, ◌<◌, zero-le, suc-le-suc}
use native.Mathlib.Omega.{arith}
use lib.Dec.{T}
use lib.ListN.{length, get_or}
use Rattle.lists.specs.Lists.{range, all}
use Rattle.lists.proofs.Tests.{T_and, all_at}
use Rattle.lists.proofs.Ranges.{length_range}
use Rattle.lists.proofs.Picks.{get_d_range}

-- it holds where it holds at each: `all_at` of lists is the other way
pub at_all : {A : Type 0} (d : A) (f : A → Bool) (l : List A) → ((i : ℕ) → i < length l → T (f (get_or l i d))) → T (all f l)
unfolding all
at_all d f [] h = tt
at_all d f (x ∷ l) h = T_and (f x) (all f l) (h 0 (suc-le-suc zero-le)) (at_all d f l (λ i s. h (suc i) (suc-le-suc s)))

pub all_range : (f : ℕ → Bool) (i k : ℕ) → T (all f (range i k)) → (v : ℕ) → i ≤ v → v < i + k → T (f v)
all_range f i k t v l m =
    let e : get_or (range i k) (v - i) 0 ≡ v = get_d_range 0 i k (v - i) (omega arith) ∙ omega arith in
    rw e at (all_at f (range i k) t (v - i) (rw length_range (omega arith)) 0)

pub range_all : (f : ℕ → Bool) (i k : ℕ) → ((v : ℕ) → i ≤ v → v < i + k → T (f v)) → T (all f (range i k))
range_all f i k h =
    at_all 0 f (range i k)
    (λ j s.
    let inside : j < k = omega (arith, length_range i k) in
    rw (get_d_range 0 i k j inside) (h (i + j) (omega arith) (omega arith)))
