-- Laws of ranges. Assumes nothing.
use mathlib.Core.Path.{◌≡◌, refl, sym, ap, ap₂, ◌∙◌, subst}
use mathlib.Core.Bool.{Bool}
use mathlib.Core.Logic.{◌⊎◌, inl, inr}
use mathlib.Core.List.{List, ◌∷◌, map}
use Prim.Native.Nat.{ℕ, zero, suc, ◌+◌, ◌<◌, ◌≤◌, zero-le, suc-le-suc}
use native.Mathlib.Omega.{arith}
use native.Mathlib.Decide.{ℕ_discrete}
use native.Mathlib.Nat.{add-zero, zero-add, add-suc, suc-add, le_of_suc-le-suc, not-suc-le-zero}
use lib.Dec.{T}
use lib.ListN.{length, get_or, length-map}
use lib.Seq.{ext_get_or}
use Rattle.lists.specs.Lists.{range, any}
use Rattle.lists.proofs.Tests.{or_T, T-or-l, T-or-r, any_map}

pub length_range : (i k : ℕ) → length (range i k) ≡ k
unfolding range
length_range i zero = refl
length_range i (suc k) = ap suc (length_range (suc i) k)

pub get_d_map_range : {A : Type 0} (f : ℕ → A) (d : A) (i k j : ℕ) → j < k → get_or (map f (range i k)) j d ≡ f (i + j)
unfolding range
get_d_map_range f d i zero j h = absurd (not-suc-le-zero h)
get_d_map_range f d i (suc k) zero h = ap f (sym (add-zero i))
get_d_map_range f d i (suc k) (suc j) h = get_d_map_range f d (suc i) k j (le_of_suc-le-suc h) ∙ ap f (suc-add i j ∙ sym (add-suc i j))

-- two functions that agree place by place give the same list
pub map_range_same : {A : Type 0} (f g : ℕ → A) (i j k : ℕ) → ((m : ℕ) → m < k → f (i + m) ≡ g (j + m)) → map f (range i k) ≡ map g (range j k)
unfolding range
map_range_same f g i j zero h = refl
map_range_same {A} f g i j (suc k) h =
    ap₂ {C = List A} (λ (x : A) (l : List A). x ∷ l) (ap f (sym (add-zero i)) ∙ h 0 (suc-le-suc zero-le) ∙ ap g (add-zero j))
    (map_range_same f g (suc i) (suc j) k (λ m s. ap f (suc-add i m ∙ sym (add-suc i m)) ∙ h (suc m) (suc-le-suc s) ∙ ap g (add-suc j m ∙ sym (suc-add j m))))

-- a list is made of a range, where each of its elements is made of its place
pub range_made : {A : Type 0} (d : A) (f : ℕ → A) (l : List A) → ((i : ℕ) → i < length l → f i ≡ get_or l i d) → map f (range 0 (length l)) ≡ l
range_made d f l h =
    let long = length-map (range 0 (length l)) f ∙ length_range 0 (length l) in
    ext_get_or d (map f (range 0 (length l))) l long (λ i s. let m : i < length l = rw long at s in get_d_map_range f d 0 (length l) i m ∙ rw zero-add (h i m))

-- a test of the element at any place of a list is a test of any element
pub any_places : {A : Type 0} (d : A) (f : A → Bool) (l : List A) → any (λ i. f (get_or l i d)) (range 0 (length l)) ≡ any f l
any_places d f l = sym (any_map f (λ i. get_or l i d) (range 0 (length l))) ∙ ap (any f) (range_made d (λ i. get_or l i d) l (λ i s. refl))

pub map_shift : {A : Type 0} (f : ℕ → A) (i k : ℕ) → map f (range (suc i) k) ≡ map (λ j. f (suc j)) (range i k)
unfolding range
map_shift f i zero = refl
map_shift f i (suc k) = ap (λ (l : List _). f (suc i) ∷ l) (map_shift f (suc i) k)

-- a number of the range that passes the test
pub record InRange (f : ℕ → Bool) (i k : ℕ) : Type 0 where
  pub number : ℕ
  pub from : i ≤ number
  pub below : number < i + k
  pub passes : T (f number)

-- a test of any number of a range holds at one of them, and the other way
pub any_range : (f : ℕ → Bool) (i k : ℕ) → T (any f (range i k)) → InRange f i k
unfolding any range
any_range f i zero t = absurd t
any_range f i (suc k) t = go (or_T (f i) (any f (range (suc i) k)) t) (λ s. any_range f (suc i) k s)
  where
    go : T (f i) ⊎ T (any f (range (suc i) k)) → (T (any f (range (suc i) k)) → InRange f (suc i) k) → InRange f i (suc k)
    go (inl s) ih = record { number = i; from = omega arith; below = omega arith; passes = s }
    go (inr s) ih = let r = ih s in record { number = r.number; from = omega arith; below = omega arith; passes = r.passes }

pub range_any : (f : ℕ → Bool) (i k : ℕ) → InRange f i k → T (any f (range i k))
unfolding any range
range_any f i zero r = absurd (omega arith)
range_any f i (suc k) r = go (ℕ_discrete r.number i) (λ s. range_any f (suc i) k s)
  where
    go : Dec (r.number ≡ i) → (InRange f (suc i) k → T (any f (range (suc i) k))) → T (any f (range i (suc k)))
    go (yes e) ih = T-or-l (f i) (any f (range (suc i) k)) (subst (λ (x : ℕ). T (f x)) e r.passes)
    go (no e) ih = T-or-r (f i) (any f (range (suc i) k)) (ih (record { number = r.number; from = omega arith; below = omega arith; passes = r.passes }))
