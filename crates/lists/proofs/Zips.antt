-- Laws of two columns put together row by row. Assumes nothing.
use mathlib.Core.Path.{◌≡◌, refl, sym, ap, ap₂, ◌∙◌}
use mathlib.Core.List.{List, [], ◌∷◌, map, zip_with}
use Prim.Native.Nat.{ℕ, zero, suc, ◌<◌}
use native.Mathlib.Omega.{arith}
use native.Mathlib.Nat.{not-suc-le-zero, le_of_suc-le-suc}
use lib.ListN.{length, get_or}

module _ {A B C : Type 0} (f : A → B → C) where
  pub length_zip : (xs : List A) (ys : List B) → length xs ≡ length ys → length (zip_with f xs ys) ≡ length xs
  unfolding zip_with
  length_zip [] ys e = refl
  length_zip (x ∷ xs) [] e = absurd (omega arith)
  length_zip (x ∷ xs) (y ∷ ys) e = ap suc (length_zip xs ys (omega arith))

  pub get_d_zip : (xs : List A) (ys : List B) (a : A) (b : B) (d : C) (i : ℕ) → i < length xs → i < length ys
      → get_or (zip_with f xs ys) i d ≡ f (get_or xs i a) (get_or ys i b)
  unfolding zip_with
  get_d_zip [] ys a b d i l m = absurd (not-suc-le-zero l)
  get_d_zip (x ∷ xs) [] a b d i l m = absurd (not-suc-le-zero m)
  get_d_zip (x ∷ xs) (y ∷ ys) a b d zero l m = refl
  get_d_zip (x ∷ xs) (y ∷ ys) a b d (suc i) l m = get_d_zip xs ys a b d i (le_of_suc-le-suc l) (le_of_suc-le-suc m)

  -- what is told of each row by its part in a column is told of the column
  pub map_zip_first : {D : Type 0} (k : C → D) (g : A → D) → ((a : A) (b : B) → k (f a b) ≡ g a)
      → (xs : List A) (ys : List B) → length xs ≡ length ys → map k (zip_with f xs ys) ≡ map g xs
  unfolding zip_with
  map_zip_first k g h [] ys e = refl
  map_zip_first k g h (x ∷ xs) [] e = absurd (omega arith)
  map_zip_first {D} k g h (x ∷ xs) (y ∷ ys) e = ap₂ {C = List D} (λ (z : D) (l : List D). z ∷ l) (h x y) (map_zip_first k g h xs ys (omega arith))

  -- the two columns of rows make the rows
  pub zip_columns : (g : C → A) (h : C → B) → ((r : C) → f (g r) (h r) ≡ r) → (rs : List C) → zip_with f (map g rs) (map h rs) ≡ rs
  unfolding zip_with
  zip_columns g h e [] = refl
  zip_columns g h e (r ∷ rs) = ap₂ {C = List C} (λ (z : C) (l : List C). z ∷ l) (e r) (zip_columns g h e rs)

zip_swap : {A B C : Type 0} (f : A → B → C) (xs : List A) (ys : List B) → zip_with f xs ys ≡ zip_with (λ b a. f a b) ys xs
unfolding zip_with
zip_swap f [] [] = refl
zip_swap f [] (y ∷ ys) = refl
zip_swap f (x ∷ xs) [] = refl
zip_swap {C = C} f (x ∷ xs) (y ∷ ys) = ap (λ (l : List C). f x y ∷ l) (zip_swap f xs ys)

pub map_zip_second : {A B C D : Type 0} (f : A → B → C) (k : C → D) (g : B → D) → ((a : A) (b : B) → k (f a b) ≡ g b)
    → (xs : List A) (ys : List B) → length xs ≡ length ys → map k (zip_with f xs ys) ≡ map g ys
map_zip_second f k g h xs ys e = ap (map k) (zip_swap f xs ys) ∙ map_zip_first (λ b a. f a b) k g (λ b a. h a b) ys xs (sym e)
