-- The first fault of a list of tests, the scan that finds it, and the rules that it judges. Assumes nothing.
use mathlib.Core.Path.{◌≡◌, refl, sym, ap, ◌∙◌, subst}
use mathlib.Core.Bool.{Bool, true, false, not}
use mathlib.Core.List.{List, [], ◌∷◌, ◌++◌, map}
use mathlib.Core.Logic.{◌≢◌}
use Prim.Native.Nat.{ℕ, zero, suc, ◌+◌, ◌<◌, ◌≤◌, zero-le, suc-le-suc}
use native.Mathlib.Omega.{arith}
use native.Mathlib.Nat.{le_of_suc-le-suc, not-suc-le-zero}
use native.Mathlib.Decide.{ℕ_discrete}
use lib.Dec.{T}
use lib.ListN.{length, get_or}
use Rattle.lists.specs.Lists.{on, first}
use Rattle.lists.specs.Rules.{Rule, Judged, kept, broken, passed, AllHold, none, more}

-- ---- the number of a test

pub on_zero : (b : Bool) (k : ℕ) → on b (suc k) ≡ 0 → T (not b)
unfolding on
on_zero true k e = absurd (omega (arith, e))
on_zero false k e = tt

pub on_true : (b : Bool) (k : ℕ) → on b k ≢ 0 → T b
unfolding on
on_true true k n = tt
on_true false k n = absurd (n refl)

-- a number that is told at all is the one that is told
pub on_told : (b : Bool) (k : ℕ) → on b k ≢ 0 → on b k ≡ k
unfolding on
on_told true k n = refl
on_told false k n = absurd (n refl)

pub on_none : (b : Bool) (k : ℕ) → T (not b) → on b k ≡ 0
unfolding on
on_none true k t = absurd t
on_none false k t = refl

pub on_pass : (b : Bool) (k : ℕ) → T b → on b k ≡ k
unfolding on
on_pass true k t = refl
on_pass false k t = absurd t

-- a bound that holds where the test does
pub on_le : (b : Bool) (k m : ℕ) → (T b → k ≤ m) → on b k ≤ m
unfolding on
on_le true k m h = h tt
on_le false k m h = zero-le

-- ---- the first number of a list

pub first_zero : (l : List ℕ) → first l ≡ 0 → (i : ℕ) → get_or l i 0 ≡ 0
unfolding first
first_zero [] e i = refl
first_zero (zero ∷ l) e zero = refl
first_zero (zero ∷ l) e (suc i) = first_zero l e i
first_zero (suc x ∷ l) e i = absurd (omega (arith, e))

pub first_skip : (x : ℕ) (l : List ℕ) → x ≡ 0 → first (x ∷ l) ≡ first l
unfolding first
first_skip zero l e = refl
first_skip (suc x) l e = absurd (omega arith)

pub first_stop : (x : ℕ) (l : List ℕ) → x ≢ 0 → first (x ∷ l) ≡ x
unfolding first
first_stop zero l n = absurd (n refl)
first_stop (suc x) l n = refl

-- the same of a number x that was found to be the first of the list
pub stop_at : {x y : ℕ} (l : List ℕ) → x ≢ 0 → x ≡ y → x ≡ first (y ∷ l)
stop_at {x} {y} l n e = e ∙ sym (first_stop y l (λ z. n (e ∙ z)))

pub skip_at : {x y z : ℕ} (l : List ℕ) → x ≡ 0 → x ≡ y → z ≡ first l → z ≡ first (y ∷ l)
skip_at {x} {y} l o e h = h ∙ sym (first_skip y l (sym e ∙ o))

pub end_at_lem : 0 ≡ first []
unfolding first
end_at_lem = refl

pub first_one : (x : ℕ) → x ≡ first (x ∷ [])
unfolding first
first_one zero = refl
first_one (suc x) = refl

-- the first number of some elements may stand for them
pub first_in : (k l m : List ℕ) → first (k ++ (first l ∷ m)) ≡ first (k ++ (l ++ m))
unfolding first
first_in [] [] m = refl
first_in [] (zero ∷ l) m = first_in [] l m
first_in [] (suc x ∷ l) m = refl
first_in (zero ∷ k) l m = first_in k l m
first_in (suc x ∷ k) l m = refl

-- ---- a scan of a list from its front, at each of whose elements f tells a fault or 0

-- none of the first i elements has a fault
pub record Clean {A : Type 0} (f : A → ℕ) (d : A) (l : List A) (i : ℕ) : Type 0 where
  pub before : (j : ℕ) → j < i → f (get_or l j d) ≡ 0

module _ {A : Type 0} (f : A → ℕ) (d : A) (l : List A) where
  pub scan_begun : Clean f d l 0
  scan_begun = record { before = λ j h. absurd (not-suc-le-zero h) }

  pub scan_miss : (i : ℕ) → Clean f d l i → f (get_or l i d) ≡ 0 → Clean f d l (i + 1)
  scan_miss i c e = record { before = λ j h. go j h (ℕ_discrete j i) }
    where
      go : (j : ℕ) → j < i + 1 → Dec (j ≡ i) → f (get_or l j d) ≡ 0
      go j h (yes q) = ap (λ (k : ℕ). f (get_or l k d)) q ∙ e
      go j h (no q) = c.before j (omega arith)

-- every element was seen, and none has a fault
pub scan_ended : {A : Type 0} (f : A → ℕ) (d : A) (l : List A) (i : ℕ) → Clean f d l i → length l ≤ i → 0 ≡ first (map f l)
scan_ended f d [] i c h = unfold first in refl
scan_ended f d (x ∷ l) zero c h = absurd (not-suc-le-zero h)
scan_ended f d (x ∷ l) (suc i) c h =
    scan_ended f d l i (record { before = λ j s. c.before (suc j) (suc-le-suc s) }) (le_of_suc-le-suc h) ∙ sym (first_skip (f x) (map f l) (c.before 0 (suc-le-suc zero-le)))

-- an element has a fault, and none before it
pub scan_hit : {A : Type 0} (f : A → ℕ) (d : A) (l : List A) (i : ℕ) {k : ℕ} → Clean f d l i → i < length l → k ≡ f (get_or l i d) → k ≢ 0 → k ≡ first (map f l)
scan_hit f d [] i c h e n = absurd (not-suc-le-zero h)
scan_hit f d (x ∷ l) zero c h e n = e ∙ sym (first_stop (f x) (map f l) (λ z. n (e ∙ z)))
scan_hit f d (x ∷ l) (suc i) c h e n =
    scan_hit f d l i (record { before = λ j s. c.before (suc j) (suc-le-suc s) }) (le_of_suc-le-suc h) e n ∙ sym (first_skip (f x) (map f l) (c.before 0 (suc-le-suc zero-le)))

-- ---- what the first fault of a list tells

pub first_map_none : {A : Type 0} (f : A → ℕ) (d : A) (l : List A) → first (map f l) ≡ 0 → (i : ℕ) → i < length l → f (get_or l i d) ≡ 0
first_map_none f d [] e i h = absurd (not-suc-le-zero h)
first_map_none f d (x ∷ l) e zero h = first_zero (f x ∷ map f l) e 0
first_map_none f d (x ∷ l) e (suc i) h = first_map_none f d l (sym (first_skip (f x) (map f l) (first_zero (f x ∷ map f l) e 0)) ∙ e) i (le_of_suc-le-suc h)

-- and where no element has a fault, their list has none
pub first_map_clean : {A : Type 0} (f : A → ℕ) (d : A) (l : List A) → ((i : ℕ) → i < length l → f (get_or l i d) ≡ 0) → first (map f l) ≡ 0
first_map_clean f d l c = sym (scan_ended f d l (length l) (record { before = c }) (omega arith))

-- the element whose fault is the first
pub record Faulty {A : Type 0} (f : A → ℕ) (d : A) (l : List A) : Type 0 where
  pub place : ℕ
  pub within : place < length l
  pub same : first (map f l) ≡ f (get_or l place d)
  pub faulty : f (get_or l place d) ≢ 0

pub first_map_some : {A : Type 0} (f : A → ℕ) (d : A) (l : List A) → first (map f l) ≢ 0 → Faulty f d l
first_map_some f d [] n = absurd (n (unfold first in refl))
first_map_some f d (x ∷ l) n = go (ℕ_discrete (f x) 0) (λ e. first_map_some f d l (λ z. n (first_skip (f x) (map f l) e ∙ z)))
  where
    go : Dec (f x ≡ 0) → (f x ≡ 0 → Faulty f d l) → Faulty f d (x ∷ l)
    go (yes e) ih =
        let r = ih e in
        record { place = suc r.place; within = suc-le-suc r.within; same = first_skip (f x) (map f l) e ∙ r.same; faulty = r.faulty }
    go (no m) ih = record { place = 0; within = suc-le-suc zero-le; same = first_stop (f x) (map f l) m; faulty = m }

-- ---- rules

-- a number that is 0 where the rule holds and the rule's where it is broken judges the rule, before those that the list judges
pub judge : (r : Rule) (rs : List Rule) (x : ℕ) (l : List ℕ) → (x ≡ 0 → r.holds) → (x ≢ 0 → ¬ r.holds × (x ≡ r.number)) → Judged rs (first l) → Judged (r ∷ rs) (first (x ∷ l))
unfolding first
judge r rs zero l y n j = passed (y refl) j
judge r rs (suc x) l y n j =
    let b : ¬ r.holds × (suc x ≡ r.number) = n (λ e. absurd (omega arith)) in
    subst (Judged (r ∷ rs)) (sym b.1) (broken b.0)

-- no rule is left
pub judge_none : Judged [] (first [])
unfolding first
judge_none = kept

-- the same of one test, which finds the rule broken
pub judge_test : (r : Rule) (rs : List Rule) (b : Bool) (l : List ℕ) → r.number ≢ 0 → (T (not b) → r.holds) → (T b → ¬ r.holds) → Judged rs (first l) → Judged (r ∷ rs) (first (on b r.number ∷ l))
unfolding on
judge_test r rs true l nz y n j = judge r rs r.number l (λ e. absurd (nz e)) (λ _. (n tt, refl)) j
judge_test r rs false l nz y n j = judge r rs 0 l (λ _. y tt) (λ e. absurd (e refl)) j

-- the same of a test that the rule holds
pub judge_right : (r : Rule) (rs : List Rule) (b : Bool) (l : List ℕ) → r.number ≢ 0 → (T b → r.holds) → (r.holds → T b) → Judged rs (first l) → Judged (r ∷ rs) (first (on (not b) r.number ∷ l))
judge_right r rs true l nz y n j = judge_test r rs false l nz (λ _. y tt) (λ f. absurd f) j
judge_right r rs false l nz y n j = judge_test r rs true l nz (λ f. absurd f) (λ _ h. n h) j

-- the same of one test for each element of a list
pub judge_each : {A : Type 0} (r : Rule) (rs : List Rule) (f : A → ℕ) (d : A) (xs : List A) (l : List ℕ)
    → (((i : ℕ) → i < length xs → f (get_or xs i d) ≡ 0) → r.holds) → (r.holds → (i : ℕ) → i < length xs → f (get_or xs i d) ≡ 0) → ((x : A) → f x ≢ 0 → f x ≡ r.number)
    → Judged rs (first l) → Judged (r ∷ rs) (first (first (map f xs) ∷ l))
judge_each r rs f d xs l y n k j =
    judge r rs (first (map f xs)) l (λ e. y (first_map_none f d xs e))
    (λ z. let s = first_map_some f d xs z in (λ h. s.faulty (n h s.place s.within), s.same ∙ k (get_or xs s.place d) s.faulty))
    j

-- no rule has the number 0
abbrev pub Numbered : List Rule → Type 0
Numbered [] = Unit {0}
Numbered (r ∷ rs) = (r.number ≢ 0) × Numbered rs

-- rules are judged 0 exactly where they all hold
pub judged_all : {rs : List Rule} {k : ℕ} → Judged rs k → Numbered rs → k ≡ 0 → AllHold rs
judged_all kept m e = none
judged_all (broken b) m e = absurd (m.0 e)
judged_all (passed h j) m e = more h (judged_all j m.1 e)

pub all_judged : {rs : List Rule} {k : ℕ} → Judged rs k → AllHold rs → k ≡ 0
all_judged kept a = refl
all_judged (broken b) (more h a) = absurd (b h)
all_judged (passed h j) (more _ a) = all_judged j a
