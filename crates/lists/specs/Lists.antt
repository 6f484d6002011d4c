-- Ranges, tests and searches over lists, sums, and the first fault of a list of tests. Assumes nothing.
use Rattle.std.specs.Prelude.{Bool, true, false, ◌&&◌, ◌||◌, cond, List, [], ◌∷◌, ◌++◌, ◌≡◌, ℕ, zero, suc, ◌+◌, ◌<◌, eqb, length, get_or}

-- k numbers from i on
unfoldable pub range : ℕ → ℕ → List ℕ
range i zero = []
range i (suc k) = i ∷ range (suc i) k

-- k where the test holds, else 0
unfoldable pub on : Bool → ℕ → ℕ
on true k = k
on false k = 0

-- the first number that is not 0, or 0
unfoldable pub first : List ℕ → ℕ
first [] = 0
first (zero ∷ xs) = first xs
first (suc x ∷ xs) = suc x

-- the numbers added up
unfoldable pub sum : List ℕ → ℕ
sum [] = 0
sum (x ∷ xs) = x + sum xs

-- the first number that passes the test, or 0
unfoldable pub lowest : (ℕ → Bool) → List ℕ → ℕ
lowest f [] = 0
lowest f (x ∷ xs) = cond (f x) x (lowest f xs)

-- what an answer tells: 0 and its values, or the number of a refusal alone
unfoldable pub outcome : ℕ → List ℕ → List ℕ
outcome zero vs = 0 ∷ vs
outcome (suc k) vs = suc k ∷ []

-- two lists of numbers are equal
unfoldable pub equal : List ℕ → List ℕ → Bool
equal [] [] = true
equal [] (y ∷ ys) = false
equal (x ∷ xs) [] = false
equal (x ∷ xs) (y ∷ ys) = eqb x y && equal xs ys

module _ {A : Type 0} where
  -- element v, counted from 1, or the default
  unfoldable pub item : List A → ℕ → A → A
  item l zero d = d
  item l (suc i) d = get_or l i d

  -- every element passes the test
  unfoldable pub all : (A → Bool) → List A → Bool
  all f [] = true
  all f (x ∷ xs) = f x && all f xs

  -- some element passes the test
  unfoldable pub any : (A → Bool) → List A → Bool
  any f [] = false
  any f (x ∷ xs) = f x || any f xs

  -- the elements that pass the test, in order
  unfoldable pub filter : (A → Bool) → List A → List A
  filter f [] = []
  filter f (x ∷ xs) = cond (f x) (x ∷ filter f xs) (filter f xs)

  -- the place of the first element that passes the test, counted from 0; the length where none does
  unfoldable pub place : (A → Bool) → List A → ℕ
  place f [] = 0
  place f (x ∷ xs) = cond (f x) 0 (suc (place f xs))

  -- the lists one after the other
  unfoldable pub flat : List (List A) → List A
  flat [] = []
  flat (x ∷ xs) = x ++ flat xs

-- x is an element of the list
pub record Placed {A : Type 0} (d : A) (l : List A) (x : A) : Type 0 where
  pub at : ℕ
  pub within : at < length l
  pub same : get_or l at d ≡ x
