-- What is picked of a list: an element by its number, what a filter leaves and in which order, and how a sum over a test splits.
-- Assumes nothing.
use mathlib.Core.Path.{◌≡◌, refl, sym, ap₂, ◌∙◌, subst}
use mathlib.Core.Bool.{Bool, true, false, not, ◌&&◌, cond}
use mathlib.Core.Logic.{◌⊎◌, inl, inr}
use mathlib.Core.List.{List, [], ◌∷◌, map}
use Prim.Native.Nat.{ℕ, zero, suc, ◌+◌, ◌-◌, ◌≤◌, ◌<◌, zero-le, suc-le-suc}
use native.Mathlib.Omega.{arith}
use native.Mathlib.Decide.{dec_lt}
use native.Mathlib.Nat.{zero-add, add-zero, add-suc, suc-add, le_of_suc-le-suc, not-suc-le-zero}
use lib.Dec.{T}
use lib.ListN.{length, get_or, replicate, get_or-eq_default}
use Rattle.lists.specs.Lists.{range, on, sum, item, filter}
pub use Rattle.lists.specs.Lists.{Placed}
use Rattle.lists.proofs.Tests.{true_T}
use Rattle.lists.proofs.Ranges.{length_range, InRange}

-- ---- an element by its number

-- a number counted from 1 is that of an element, or the default is picked
pub item_inside : {A : Type 0} (l : List A) (v : ℕ) (d : A) → ((1 ≤ v) × (v ≤ length l)) ⊎ (item l v d ≡ d)
unfolding item
item_inside l zero d = inr refl
item_inside {A} l (suc i) d = go (dec_lt i (length l))
  where
    go : Dec (i < length l) → ((1 ≤ suc i) × (suc i ≤ length l)) ⊎ (get_or l i d ≡ d)
    go (yes h) = inl (suc-le-suc zero-le, h)
    go (no h) = inr (get_or-eq_default l d (omega arith))

-- an element of a mapped list
pub map_at : {A B : Type 0} (f : A → B) (d : B) (z : A) (l : List A) (i : ℕ) → i < length l → get_or (map f l) i d ≡ f (get_or l i z)
map_at f d z [] i h = absurd (not-suc-le-zero h)
map_at f d z (x ∷ l) zero h = refl
map_at f d z (x ∷ l) (suc i) h = map_at f d z l i (le_of_suc-le-suc h)

-- each element is made again
pub map_back : {A B : Type 0} (d : A) (f : A → B) (g : B → A) (l : List A) → ((i : ℕ) → i < length l → g (f (get_or l i d)) ≡ get_or l i d) → map g (map f l) ≡ l
map_back d f g [] h = refl
map_back {A} d f g (x ∷ l) h = ap₂ {C = List A} (λ (y : A) (r : List A). y ∷ r) (h 0 (suc-le-suc zero-le)) (map_back d f g l (λ i s. h (suc i) (suc-le-suc s)))

-- in a list of copies, and past its end, there is nothing else
pub copies_at : {A : Type 0} (d : A) (n i : ℕ) → get_or (replicate n d) i d ≡ d
copies_at d zero i = refl
copies_at d (suc n) zero = refl
copies_at d (suc n) (suc i) = copies_at d n i

-- ---- the elements that a filter leaves

module _ {A : Type 0} (d : A) (f : A → Bool) where
  -- each that is left passes
  pub filter_passes : (l : List A) (j : ℕ) → j < length (filter f l) → T (f (get_or (filter f l) j d))
  unfolding filter
  filter_passes [] j h = absurd (not-suc-le-zero h)
  filter_passes (x ∷ l) j h = go (f x) refl j h (λ m s. filter_passes l m s)
    where
      go : (b : Bool) → f x ≡ b → (j : ℕ) → j < length (cond b (x ∷ filter f l) (filter f l)) → ((m : ℕ) → m < length (filter f l) → T (f (get_or (filter f l) m d)))
          → T (f (get_or (cond b (x ∷ filter f l) (filter f l)) j d))
      go true e zero h ih = true_T e
      go true e (suc j) h ih = ih j (le_of_suc-le-suc h)
      go false e j h ih = ih j h

  -- each element that passes is left
  pub filter_leaves : (l : List A) (i : ℕ) → i < length l → T (f (get_or l i d)) → Placed d (filter f l) (get_or l i d)
  unfolding filter
  filter_leaves [] i h t = absurd (not-suc-le-zero h)
  filter_leaves (x ∷ l) i h t = go (f x) refl i h t (λ j s u. filter_leaves l j s u)
    where
      go : (b : Bool) → f x ≡ b → (i : ℕ) → i < suc (length l) → T (f (get_or (x ∷ l) i d)) → ((j : ℕ) → j < length l → T (f (get_or l j d)) → Placed d (filter f l) (get_or l j d))
          → Placed d (cond b (x ∷ filter f l) (filter f l)) (get_or (x ∷ l) i d)
      go true e zero h t ih = record { at = 0; within = suc-le-suc zero-le; same = refl }
      go true e (suc i) h t ih = let r = ih i (le_of_suc-le-suc h) t in record { at = suc r.at; within = suc-le-suc r.within; same = r.same }
      go false e zero h t ih = absurd (subst T e t)
      go false e (suc i) h t ih = ih i (le_of_suc-le-suc h) t

-- ---- the numbers that a filter leaves of a range

pub get_d_range : (d i k j : ℕ) → j < k → get_or (range i k) j d ≡ i + j
unfolding range
get_d_range d i zero j h = absurd (not-suc-le-zero h)
get_d_range d i (suc k) zero h = sym (add-zero i)
get_d_range d i (suc k) (suc j) h = get_d_range d (suc i) k j (le_of_suc-le-suc h) ∙ suc-add i j ∙ sym (add-suc i j)

-- from 0 on each number is its own place
pub range_at : (k j : ℕ) → j < k → get_or (range 0 k) j 0 ≡ j
range_at k j h = get_d_range 0 0 k j h ∙ zero-add j

module _ (f : ℕ → Bool) where
  -- each number that passes is left
  pub range_leaves : (i k : ℕ) (r : InRange f i k) → Placed 0 (filter f (range i k)) r.number
  range_leaves i k r =
      let j = r.number - i in
      let e : get_or (range i k) j 0 ≡ r.number = get_d_range 0 i k j (omega arith) ∙ omega arith in
      rw e at (filter_leaves 0 f (range i k) j (rw length_range (omega arith)) (rw e r.passes))

  -- none is below the range: `filter_below` of Filters has the other bound
  pub filter_from : (i k j : ℕ) → j < length (filter f (range i k)) → i ≤ get_or (filter f (range i k)) j 0
  unfolding filter range
  filter_from i zero j h = absurd (not-suc-le-zero h)
  filter_from i (suc k) j h = go (f i) j h (λ m s. filter_from (suc i) k m s)
    where
      rest : List ℕ
      rest = filter f (range (suc i) k)

      go : (b : Bool) (j : ℕ) → j < length (cond b (i ∷ rest) rest) → ((m : ℕ) → m < length rest → suc i ≤ get_or rest m 0) → i ≤ get_or (cond b (i ∷ rest) rest) j 0
      go true zero h ih = omega arith
      go true (suc j) h ih = let r = ih j (le_of_suc-le-suc h) in omega arith
      go false j h ih = let r = ih j h in omega arith

  -- they strictly rise
  pub filter_rises : (i k j m : ℕ) → j < m → m < length (filter f (range i k)) → get_or (filter f (range i k)) j 0 < get_or (filter f (range i k)) m 0
  unfolding filter range
  filter_rises i zero j m l h = absurd (not-suc-le-zero h)
  filter_rises i (suc k) j m l h = go (f i) j m l h (λ j m l s. filter_rises (suc i) k j m l s)
    where
      rest : List ℕ
      rest = filter f (range (suc i) k)

      go : (b : Bool) (j m : ℕ) → j < m → m < length (cond b (i ∷ rest) rest) → ((j m : ℕ) → j < m → m < length rest → get_or rest j 0 < get_or rest m 0)
          → get_or (cond b (i ∷ rest) rest) j 0 < get_or (cond b (i ∷ rest) rest) m 0
      go true j zero l h ih = absurd (not-suc-le-zero l)
      go true zero (suc m) l h ih = filter_from (suc i) k m (le_of_suc-le-suc h)
      go true (suc j) (suc m) l h ih = ih j m (le_of_suc-le-suc l) (le_of_suc-le-suc h)
      go false j m l h ih = ih j m l h

-- ---- sums

split_one : (w : ℕ) (a b : Bool) → (T b → T a) → on b w + on (a && not b) w ≡ on a w
unfolding on
split_one w true true m = omega arith
split_one w true false m = omega arith
split_one w false true m = absurd (m tt)
split_one w false false m = refl

-- where g picks only what f picks, the sum over f is the sum over g and the sum over what f alone picks
pub sum_split : (w : ℕ → ℕ) (f g : ℕ → Bool) → ((c : ℕ) → T (g c) → T (f c)) → (i k : ℕ)
    → sum (map (λ c. on (g c) (w c)) (range i k)) + sum (map (λ c. on (f c && not (g c)) (w c)) (range i k)) ≡ sum (map (λ c. on (f c) (w c)) (range i k))
unfolding sum range
sum_split w f g m i zero = refl
sum_split w f g m i (suc k) = omega (arith, split_one (w i) (f i) (g i) (m i), sum_split w f g m (suc i) k)
