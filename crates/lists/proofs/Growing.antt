-- Lists over a range that grows at its end. Assumes nothing.
use mathlib.Core.Path.{◌≡◌, refl, sym, ap, ◌∙◌}
use mathlib.Core.Bool.{Bool, true, false, cond}
use mathlib.Core.List.{List, [], ◌∷◌, ◌++◌, map, append_assoc, append-nil}
pub use mathlib.Core.List.{map-append}
use Prim.Native.Nat.{ℕ, zero, suc, ◌+◌, ◌-◌, ◌≤◌}
use native.Mathlib.Omega.{arith}
use native.Mathlib.Nat.{add-zero, add-suc, suc-add}
use native.Mathlib.Numerals.{add-one}
use lib.ListN.{length, length-append}
use Rattle.lists.specs.Lists.{range, filter, flat}

pub range_more : (i k : ℕ) → range i (suc k) ≡ range i k ++ ((i + k) ∷ [])
unfolding range
range_more i zero = ap (λ (j : ℕ). j ∷ []) (sym (add-zero i))
range_more i (suc k) = ap (λ (l : List ℕ). i ∷ l) (range_more (suc i) k ∙ ap (λ (j : ℕ). range (suc i) k ++ (j ∷ [])) (suc-add i k ∙ sym (add-suc i k)))

module _ {A : Type 0} where
  pub filter_append : (f : A → Bool) (xs ys : List A) → filter f (xs ++ ys) ≡ filter f xs ++ filter f ys
  unfolding filter
  filter_append f [] ys = refl
  filter_append f (x ∷ xs) ys = go (f x) (filter_append f xs ys)
    where
      go : (b : Bool) → filter f (xs ++ ys) ≡ filter f xs ++ filter f ys → cond b (x ∷ filter f (xs ++ ys)) (filter f (xs ++ ys)) ≡ cond b (x ∷ filter f xs) (filter f xs) ++ filter f ys
      go true e = ap (λ (l : List A). x ∷ l) e
      go false e = e

  pub flat_append : (xs ys : List (List A)) → flat (xs ++ ys) ≡ flat xs ++ flat ys
  unfolding flat
  flat_append [] ys = refl
  flat_append (x ∷ xs) ys = ap (λ (l : List A). x ++ l) (flat_append xs ys) ∙ sym (append_assoc x (flat xs) (flat ys))

-- the next number passes the test, or it does not
pub filter_more : (f : ℕ → Bool) (i k : ℕ) → filter f (range i (suc k)) ≡ filter f (range i k) ++ cond (f (i + k)) ((i + k) ∷ []) []
unfolding filter
filter_more f i k = ap (filter f) (range_more i k) ∙ filter_append f (range i k) ((i + k) ∷ [])

pub filter_hit : (f : ℕ → Bool) (i k : ℕ) → f (i + k) ≡ true → filter f (range i (k + 1)) ≡ filter f (range i k) ++ ((i + k) ∷ [])
filter_hit f i k e = rw (add-one, filter_more, e)

pub filter_miss : (f : ℕ → Bool) (i k : ℕ) → f (i + k) ≡ false → filter f (range i (k + 1)) ≡ filter f (range i k)
filter_miss f i k e = rw (add-one, filter_more, e, append-nil)

-- of a longer range no fewer are left
pub filter_grows : (f : ℕ → Bool) (i k m : ℕ) → k ≤ m → length (filter f (range i k)) ≤ length (filter f (range i m))
filter_grows f i k m h = rw longer at (go (m - k))
  where
    longer : k + (m - k) ≡ m
    longer = omega arith

    go : (j : ℕ) → length (filter f (range i k)) ≤ length (filter f (range i (k + j)))
    go zero = rw add-zero (omega arith)
    go (suc j) =
        let e : length (filter f (range i (suc (k + j)))) ≡ length (filter f (range i (k + j))) + length (cond (f (i + (k + j))) ((i + (k + j)) ∷ []) []) =
        ap length (filter_more f i (k + j)) ∙ length-append (filter f (range i (k + j))) (cond (f (i + (k + j))) ((i + (k + j)) ∷ []) []) in
        rw (add-suc k j) (omega (arith, go j))

-- groups over a range, one more of them
pub flat_map_more : {A B : Type 0} (g : A → List B) (xs : List A) (x : A) → flat (map g (xs ++ (x ∷ []))) ≡ flat (map g xs) ++ g x
unfolding flat
flat_map_more {A} {B} g xs x = ap flat (map-append g xs (x ∷ [])) ∙ flat_append (map g xs) (g x ∷ []) ∙ ap (λ (l : List B). flat (map g xs) ++ l) (append-nil (g x))
