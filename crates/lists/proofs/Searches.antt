-- The first element of a list that passes a test: that it passes, that none before it does, and its bounds. Assumes nothing.
use mathlib.Core.Path.{◌≡◌, refl, ap, ◌∙◌, subst}
use mathlib.Core.Bool.{Bool, true, false, ◌||◌, cond}
use mathlib.Core.List.{List, [], ◌∷◌, map}
use Prim.Native.Nat.{ℕ, zero, suc, ◌+◌, ◌<◌, ◌≤◌, zero-le, suc-le-suc}
use native.Mathlib.Omega.{arith}
use native.Mathlib.Decide.{ℕ_discrete}
use native.Mathlib.Nat.{add-zero, zero-add, le_of_suc-le-suc, not-suc-le-zero}
use lib.Dec.{T}
use lib.ListN.{length, get_or}
use Rattle.lists.specs.Lists.{range, any, place, lowest}
use Rattle.lists.proofs.Tests.{true_T}

-- ---- the place of an element

pub place_le : {A : Type 0} (f : A → Bool) (l : List A) → place f l ≤ length l
unfolding place
place_le f [] = zero-le
place_le f (x ∷ l) = go (f x) (place_le f l)
  where
    go : (b : Bool) → place f l ≤ length l → cond b 0 (suc (place f l)) ≤ suc (length l)
    go true h = zero-le
    go false h = suc-le-suc h

module _ {A : Type 0} (d : A) (f : A → Bool) where
  -- where some element passes, the one that is found passes
  pub place_holds : (l : List A) (i : ℕ) → i < length l → T (f (get_or l i d)) → T (f (get_or l (place f l) d))
  unfolding place
  place_holds [] i h t = absurd (not-suc-le-zero h)
  place_holds (x ∷ l) i h t = go (f x) refl i h t (λ j s u. place_holds l j s u)
    where
      go : (b : Bool) → f x ≡ b → (i : ℕ) → i < suc (length l) → T (f (get_or (x ∷ l) i d)) → ((j : ℕ) → j < length l → T (f (get_or l j d)) → T (f (get_or l (place f l) d)))
          → T (f (get_or (x ∷ l) (cond b 0 (suc (place f l))) d))
      go true e i h t ih = true_T e
      go false e zero h t ih = absurd (subst T e t)
      go false e (suc i) h t ih = ih i (le_of_suc-le-suc h) t

  -- and none before it does
  pub place_first : (l : List A) (i : ℕ) → i < length l → T (f (get_or l i d)) → place f l ≤ i
  unfolding place
  place_first [] i h t = absurd (not-suc-le-zero h)
  place_first (x ∷ l) i h t = go (f x) refl i h t (λ j s u. place_first l j s u)
    where
      go : (b : Bool) → f x ≡ b → (i : ℕ) → i < suc (length l) → T (f (get_or (x ∷ l) i d)) → ((j : ℕ) → j < length l → T (f (get_or l j d)) → place f l ≤ j) → cond b 0 (suc (place f l)) ≤ i
      go true e i h t ih = zero-le
      go false e zero h t ih = absurd (subst T e t)
      go false e (suc i) h t ih = suc-le-suc (ih i (le_of_suc-le-suc h) t)

-- the place in a list whose elements are made of another's
pub place_map : {A B : Type 0} (f : B → Bool) (g : A → B) (l : List A) → place f (map g l) ≡ place (λ x. f (g x)) l
unfolding place
place_map f g [] = refl
place_map f g (x ∷ l) = ap (λ (k : ℕ). cond (f (g x)) 0 (suc k)) (place_map f g l)

-- a scan of a range: the numbers before k were looked at, and none of them passes
module _ (f : ℕ → Bool) where
  -- the next one passes, or the range ends
  pub place_is : (i k n : ℕ) → k ≤ n → ((j : ℕ) → j < k → f (i + j) ≡ false) → (k < n → f (i + k) ≡ true) → k ≡ place f (range i n)
  unfolding place range
  place_is i zero zero l h e = refl
  place_is i zero (suc n) l h e = rw (rw add-zero at (e (omega arith)))
  place_is i (suc k) zero l h e = absurd (omega arith)
  place_is i (suc k) (suc n) l h e =
      let rest = place_is (suc i) k n (omega arith) (λ j s. ap f (omega arith) ∙ h (suc j) (omega arith)) (λ s. ap f (omega arith) ∙ e (omega arith)) in
      rw (rw add-zero at (h 0 (omega arith))) (ap suc rest)

  pub place_found : (k n : ℕ) → k < n → ((j : ℕ) → j < k → f j ≡ false) → f k ≡ true → k ≡ place f (range 0 n)
  place_found k n l h e = place_is 0 k n (omega arith) (λ j s. rw zero-add (h j s)) (λ _. rw zero-add e)

  pub place_none : (n : ℕ) → ((j : ℕ) → j < n → f j ≡ false) → n ≡ place f (range 0 n)
  place_none n h = place_is 0 n n (omega arith) (λ j s. rw zero-add (h j s)) (λ l. absurd (omega arith))

-- ---- the number itself

-- where some number passes, the one that is found passes
pub lowest_holds : (f : ℕ → Bool) (l : List ℕ) → T (any f l) → T (f (lowest f l))
unfolding lowest any
lowest_holds f [] t = absurd t
lowest_holds f (x ∷ l) t = go (f x) refl t (λ s. lowest_holds f l s)
  where
    go : (b : Bool) → f x ≡ b → T (b || any f l) → (T (any f l) → T (f (lowest f l))) → T (f (cond b x (lowest f l)))
    go true e t ih = true_T e
    go false e t ih = ih t

-- and none of the range below it does
pub lowest_first : (f : ℕ → Bool) (i k v : ℕ) → i ≤ v → v < i + k → T (f v) → lowest f (range i k) ≤ v
unfolding lowest range
lowest_first f i zero v s h t = zero-le
lowest_first f i (suc k) v s h t = go (f i) refl (ℕ_discrete v i) (λ m. lowest_first f (suc i) k v m (omega arith) t)
  where
    go : (b : Bool) → f i ≡ b → Dec (v ≡ i) → (suc i ≤ v → lowest f (range (suc i) k) ≤ v) → cond b i (lowest f (range (suc i) k)) ≤ v
    go true e q ih = s
    go false e (yes q) ih = absurd (subst T e (subst (λ (x : ℕ). T (f x)) q t))
    go false e (no q) ih = ih (omega arith)

pub lowest_le : (f : ℕ → Bool) (i k m : ℕ) → i + k ≤ suc m → lowest f (range i k) ≤ m
unfolding lowest range
lowest_le f i zero m h = zero-le
lowest_le f i (suc k) m h = go (f i) (lowest_le f (suc i) k m (omega arith))
  where
    go : (b : Bool) → lowest f (range (suc i) k) ≤ m → cond b i (lowest f (range (suc i) k)) ≤ m
    go true s = omega arith
    go false s = s
