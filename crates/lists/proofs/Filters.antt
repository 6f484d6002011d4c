-- The elements of a list that pass a test. Assumes nothing.
use mathlib.Core.Bool.{Bool, true, false, cond}
use mathlib.Core.List.{List, [], ◌∷◌}
use Prim.Native.Nat.{ℕ, zero, suc, ◌+◌, ◌<◌, ◌≤◌, zero-le, suc-le-suc}
use native.Mathlib.Omega.{arith}
use native.Mathlib.Nat.{le_of_suc-le-suc, not-suc-le-zero}
use lib.ListN.{length, get_or}
use Rattle.lists.specs.Lists.{range, filter}

pub length_filter_le : {A : Type 0} (f : A → Bool) (l : List A) → length (filter f l) ≤ length l
unfolding filter
length_filter_le f [] = zero-le
length_filter_le f (x ∷ l) = go (f x) (length_filter_le f l)
  where
    go : (b : Bool) → length (filter f l) ≤ length l → length (cond b (x ∷ filter f l) (filter f l)) ≤ suc (length l)
    go true h = suc-le-suc h
    go false h = omega arith

-- a number that a filter leaves of a range is in the range
pub filter_below : (f : ℕ → Bool) (i k j : ℕ) → j < length (filter f (range i k)) → get_or (filter f (range i k)) j 0 < i + k
unfolding filter range
filter_below f i zero j h = absurd (not-suc-le-zero h)
filter_below f i (suc k) j h = go (f i) j h (λ m s. filter_below f (suc i) k m s)
  where
    rest : List ℕ
    rest = filter f (range (suc i) k)

    go : (b : Bool) (j : ℕ) → j < length (cond b (i ∷ rest) rest) → ((m : ℕ) → m < length rest → get_or rest m 0 < suc i + k) → get_or (cond b (i ∷ rest) rest) j 0 < i + suc k
    go true zero h ih = omega arith
    go true (suc j) h ih = let r = ih j (le_of_suc-le-suc h) in omega arith
    go false j h ih = let r = ih j h in omega arith
