-- Tests as facts. Assumes nothing.
use mathlib.Core.Path.{◌≡◌, refl, sym, ap, ap₂, ◌∙◌, subst}
use mathlib.Core.Bool.{Bool, true, false, not, xor, ◌&&◌, ◌||◌, or_assoc}
use mathlib.Core.Logic.{◌⊎◌, inl, inr, by_cases}
use mathlib.Core.List.{List, [], ◌∷◌, ◌++◌, map}
use Prim.Native.Nat.{ℕ, zero, suc, ◌<◌, zero-le, suc-le-suc}
use native.Mathlib.Decide.{ℕ_discrete}
use native.Mathlib.Nat.{le_of_suc-le-suc, not-suc-le-zero}
use borrow.Author.Tests.{ne_eqb}
use lib.Dec.{T, eqb, eqb→eq, eqb_refl}
use lib.ListN.{length, get_or}
use Rattle.lists.specs.Lists.{all, any, equal}

pub and_T : (a b : Bool) → T (a && b) → T a × T b
and_T true b t = (tt, t)
and_T false b t = absurd t

pub T_and : (a b : Bool) → T a → T b → T (a && b)
T_and true b s t = t
T_and false b s t = s

pub or_T : (a b : Bool) → T (a || b) → T a ⊎ T b
or_T true b t = inl tt
or_T false b t = inr t

pub T-or-l : (a b : Bool) → T a → T (a || b)
T-or-l true b t = tt
T-or-l false b t = absurd t

pub T-or-r : (a b : Bool) → T b → T (a || b)
T-or-r true b t = tt
T-or-r false b t = t

pub not_or : (a b : Bool) → T (not (a || b)) → T (not a) × T (not b)
not_or true b t = absurd t
not_or false b t = (tt, t)

-- a test passes or it does not
pub either : (b : Bool) → T b ⊎ T (not b)
either true = inl tt
either false = inr tt

pub T? : (b : Bool) → Dec (T b)
T? true = yes tt
T? false = no (λ t. t)

pub not_not_T : (b : Bool) → T (not (not b)) → T b
not_not_T true t = tt
not_not_T false t = t

-- a test as an equation
pub true_T : {b : Bool} → b ≡ true → T b
true_T e = rw e tt

pub is_true : (b : Bool) → T b → b ≡ true
is_true true t = refl
is_true false t = absurd t

pub is_false : (b : Bool) → ¬ T b → b ≡ false
is_false true f = absurd (f tt)
is_false false f = refl

-- a test differs from itself nowhere
pub xor_self : (a : Bool) → ¬ T (xor a a)
unfolding xor
xor_self true t = t
xor_self false t = t

pub xor_false : (a : Bool) → xor a false ≡ a
unfolding xor
xor_false true = refl
xor_false false = refl

pub eq_T : (a b : ℕ) → a ≡ b → T (eqb a b)
eq_T a b e = subst (λ (x : ℕ). T (eqb a x)) e (eqb_refl a)

pub eqb_comm : (a b : ℕ) → eqb a b ≡ eqb b a
eqb_comm a b = by_cases (ℕ_discrete a b) (λ e. rw e) (λ n. ne_eqb a b n ∙ sym (ne_eqb b a (λ e. n (sym e))))

-- a test of all elements holds at each
pub all_at : {A : Type 0} (f : A → Bool) (l : List A) → T (all f l) → (i : ℕ) → i < length l → (d : A) → T (f (get_or l i d))
unfolding all
all_at f [] t i h d = absurd (not-suc-le-zero h)
all_at f (x ∷ l) t zero h d = (and_T (f x) (all f l) t).0
all_at f (x ∷ l) t (suc i) h d = all_at f l (and_T (f x) (all f l) t).1 i (le_of_suc-le-suc h) d

-- a test of all elements holds where no element fails it
pub all_any : {A : Type 0} (f : A → Bool) (l : List A) → all f l ≡ not (any (λ x. not (f x)) l)
unfolding all any
all_any f [] = refl
all_any f (x ∷ l) = go (f x) (all_any f l)
  where
    go : (b : Bool) → all f l ≡ not (any (λ x. not (f x)) l) → (b && all f l) ≡ not (not b || any (λ x. not (f x)) l)
    go true e = e
    go false e = refl

-- a test of any element holds at some place
pub record Somewhere {A : Type 0} (d : A) (f : A → Bool) (l : List A) : Type 0 where
  pub at : ℕ
  pub within : at < length l
  pub passes : T (f (get_or l at d))

pub any_at : {A : Type 0} (d : A) (f : A → Bool) (l : List A) → T (any f l) → Somewhere d f l
unfolding any
any_at d f [] t = absurd t
any_at {A} d f (x ∷ l) t = go (or_T (f x) (any f l) t) (λ s. any_at d f l s)
  where
    go : T (f x) ⊎ T (any f l) → (T (any f l) → Somewhere d f l) → Somewhere d f (x ∷ l)
    go (inl s) ih = record { at = 0; within = suc-le-suc zero-le; passes = s }
    go (inr s) ih = let r = ih s in record { at = suc r.at; within = suc-le-suc r.within; passes = r.passes }

pub at_any : {A : Type 0} (d : A) (f : A → Bool) (l : List A) (i : ℕ) → i < length l → T (f (get_or l i d)) → T (any f l)
unfolding any
at_any d f [] i h t = absurd (not-suc-le-zero h)
at_any d f (x ∷ l) zero h t = T-or-l (f x) (any f l) t
at_any d f (x ∷ l) (suc i) h t = T-or-r (f x) (any f l) (at_any d f l i (le_of_suc-le-suc h) t)

-- a test of any element that is made of another list's
pub any_map : {A B : Type 0} (f : B → Bool) (g : A → B) (l : List A) → any f (map g l) ≡ any (λ x. f (g x)) l
unfolding any
any_map f g [] = refl
any_map f g (x ∷ l) = ap (λ (b : Bool). f (g x) || b) (any_map f g l)

-- a test of any element of two lists
pub any_append : {A : Type 0} (f : A → Bool) (xs ys : List A) → any f (xs ++ ys) ≡ (any f xs || any f ys)
unfolding any
any_append f [] ys = refl
any_append f (x ∷ xs) ys = ap (λ (b : Bool). f x || b) (any_append f xs ys) ∙ sym (or_assoc (f x) (any f xs) (any f ys))

-- lists that are tested equal are the same
pub equal_same : (xs ys : List ℕ) → T (equal xs ys) → xs ≡ ys
unfolding equal
equal_same [] [] t = refl
equal_same [] (y ∷ ys) t = absurd t
equal_same (x ∷ xs) [] t = absurd t
equal_same (x ∷ xs) (y ∷ ys) t =
    let s : T (eqb x y) × T (equal xs ys) = and_T (eqb x y) (equal xs ys) t in
    ap₂ (λ (a : ℕ) (l : List ℕ). a ∷ l) (eqb→eq x y s.0) (equal_same xs ys s.1)
