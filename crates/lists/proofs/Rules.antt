-- Rules of two lists, one after the other, and of each element of a list: how they are judged, and when they all hold. Assumes nothing.
use mathlib.Core.Path.{◌≡◌, refl, sym, subst}
use mathlib.Core.Bool.{Bool, true, false, not}
use mathlib.Core.Logic.{◌≢◌}
use mathlib.Core.List.{List, [], ◌∷◌, ◌++◌, map}
use Prim.Native.Nat.{ℕ, zero, suc, ◌<◌, zero-le, suc-le-suc}
use native.Mathlib.Nat.{le_of_suc-le-suc, not-suc-le-zero}
use lib.Dec.{T}
use lib.ListN.{length, get_or}
use Rattle.lists.specs.Lists.{on, first}
use Rattle.lists.specs.Rules.{Rule, each_rules, Judged, kept, broken, passed, AllHold, none, more}
use Rattle.lists.proofs.Faults.{first_stop, judge_none, Numbered}

-- ---- the later rules are judged where the earlier ones hold

pub right_then : (r : Rule) (rs : List Rule) (b : Bool) (l : List ℕ) → r.number ≢ 0 → (T b → r.holds) → (r.holds → T b) → (r.holds → Judged rs (first l)) → Judged (r ∷ rs) (first (on (not b) r.number ∷ l))
unfolding on first
right_then r rs true l nz y n j = passed (y tt) (j (y tt))
right_then r rs false l nz y n j = subst (Judged (r ∷ rs)) (sym (first_stop r.number l nz)) (broken n)

pub judged_then : {rs ss : List Rule} {k : ℕ} (l : List ℕ) → Judged rs k → Numbered rs → (k ≡ 0 → Judged ss (first l)) → Judged (rs ++ ss) (first (k ∷ l))
unfolding first
judged_then l kept m j = j refl
judged_then {ss = ss} l (broken {r = r} {rs = rs} b) m j = subst (Judged (r ∷ (rs ++ ss))) (sym (first_stop r.number l m.0)) (broken b)
judged_then l (passed h q) m j = passed h (judged_then l q m.1 j)

pub numbered_both : (rs ss : List Rule) → Numbered rs → Numbered ss → Numbered (rs ++ ss)
numbered_both [] ss a b = b
numbered_both (r ∷ rs) ss a b = (a.0, numbered_both rs ss a.1 b)

-- ---- all rules of one, and of two lists

pub hold_one : {r : Rule} → AllHold (r ∷ []) → r.holds
hold_one (more h none) = h

pub hold_left : (rs ss : List Rule) → AllHold (rs ++ ss) → AllHold rs
hold_left [] ss a = none
hold_left (r ∷ rs) ss (more h a) = more h (hold_left rs ss a)

pub hold_right : (rs ss : List Rule) → AllHold (rs ++ ss) → AllHold ss
hold_right [] ss a = a
hold_right (r ∷ rs) ss (more h a) = hold_right rs ss a

pub hold_both : {rs ss : List Rule} → AllHold rs → AllHold ss → AllHold (rs ++ ss)
hold_both none b = b
hold_both (more h a) b = more h (hold_both a b)

-- ---- the rules of each element of a list, judged by the first fault of its elements

module _ {A : Type 0} (r : A → List Rule) (d : A) where
  pub each_judged : ((x : A) → Numbered (r x)) → (f : A → ℕ) (xs : List A) → ((i : ℕ) → i < length xs → Judged (r (get_or xs i d)) (f (get_or xs i d))) → Judged (each_rules r xs) (first (map f xs))
  unfolding each_rules
  each_judged m f [] j = judge_none
  each_judged m f (x ∷ xs) j = judged_then (map f xs) (j 0 (suc-le-suc zero-le)) (m x) (λ _. each_judged m f xs (λ i h. j (suc i) (suc-le-suc h)))

  pub hold_each : (xs : List A) → AllHold (each_rules r xs) → (i : ℕ) → i < length xs → AllHold (r (get_or xs i d))
  unfolding each_rules
  hold_each [] a i h = absurd (not-suc-le-zero h)
  hold_each (x ∷ xs) a zero h = hold_left (r x) (each_rules r xs) a
  hold_each (x ∷ xs) a (suc i) h = hold_each xs (hold_right (r x) (each_rules r xs) a) i (le_of_suc-le-suc h)

  pub each_hold : (xs : List A) → ((i : ℕ) → i < length xs → AllHold (r (get_or xs i d))) → AllHold (each_rules r xs)
  unfolding each_rules
  each_hold [] a = none
  each_hold (x ∷ xs) a = hold_both (a 0 (suc-le-suc zero-le)) (each_hold xs (λ i h. a (suc i) (suc-le-suc h)))

pub each_numbered : {A : Type 0} (r : A → List Rule) → ((x : A) → Numbered (r x)) → (xs : List A) → Numbered (each_rules r xs)
unfolding each_rules
each_numbered r m [] = tt
each_numbered r m (x ∷ xs) = numbered_both (r x) (each_rules r xs) (m x) (each_numbered r m xs)
