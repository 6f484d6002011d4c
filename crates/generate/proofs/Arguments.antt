-- An argument is read digit by digit. Assumes nothing.
use mathlib.Core.Path.{◌≡◌, refl, sym, ap, ◌∙◌}
use mathlib.Core.Bool.{Bool, true, false, ◌&&◌, cond}
use mathlib.Core.Logic.{◌≢◌}
use mathlib.Core.List.{List, [], ◌∷◌}
use Prim.Native.Nat.{ℕ, ◌+◌, ◌-◌, ◌*◌, ◌^◌, ◌≤◌, ◌<◌}
use native.Mathlib.Omega.{arith}
use native.Mathlib.Numerals.{add-one}
use lib.Dec.{leb, ltb, leb→le, ltb→lt}
use lib.ListN.{length, get_or, drop}
use lib.Seq.{drop-cons, drop-length}
use Rattle.lists.proofs.Tests.{and_T, true_T}
use Rattle.std.specs.Prelude.{None, Some}
use Rattle.generate.specs.Arguments.{goes_on, read_on, given}

-- where reading goes on, the character is a digit, and the number still fits
pub goes_on_lem : (n c : ℕ) → goes_on n c ≡ true → (48 ≤ c) × (c ≤ 57) × (n * 10 + (c - 48) < 2 ^ 64)
unfolding goes_on
goes_on_lem n c e =
    let a = and_T (leb 48 c) (leb c 57 && ltb (n * 10 + (c - 48)) (2 ^ 64)) (true_T e) in
    let b = and_T (leb c 57) (ltb (n * 10 + (c - 48)) (2 ^ 64)) a.1 in
    (leb→le 48 c a.0, leb→le c 57 b.0, ltb→lt _ _ b.1)

pub none_given : (text : List ℕ) → length text ≡ 0 → None ≡ given text
unfolding given
none_given [] e = refl
none_given (c ∷ cs) e = absurd (omega (arith, e))

pub some_given : (text : List ℕ) → length text ≢ 0 → given text ≡ read_on 0 text
unfolding given
some_given [] n = absurd (n refl)
some_given (c ∷ cs) n = refl

-- the number with one more digit, or none, and what that makes of the rest
module _ (v m : ℕ) (rest : List ℕ) where
  goes : (b : Bool) → cond b (Some v) None ≡ Some m → cond b (read_on v rest) None ≡ read_on m rest
  goes true e = let same : v ≡ m = cc in ap (λ (k : ℕ). read_on k rest) same
  goes false e = cc

  stops : (b : Bool) → cond b (Some v) None ≡ None → cond b (read_on v rest) None ≡ None
  stops true e = cc
  stops false e = refl

-- the first i digits are read, and make n
module _ (text : List ℕ) (n i : ℕ) where
  next : i < length text → given text ≡ read_on n (drop i text)
      → given text ≡ cond (goes_on n (get_or text i 0)) (read_on (n * 10 + (get_or text i 0 - 48)) (drop (i + 1) text)) None
  unfolding read_on
  next l r = r ∙ ap (read_on n) (drop-cons text i 0 l) ∙ rw (add-one i)

  pub reading_next : {m : ℕ} → i < length text → given text ≡ read_on n (drop i text)
      → cond (goes_on n (get_or text i 0)) (Some (n * 10 + (get_or text i 0 - 48))) None ≡ Some m → given text ≡ read_on m (drop (i + 1) text)
  reading_next {m} l r e = next l r ∙ goes _ m _ _ e

  pub reading_stopped : i < length text → given text ≡ read_on n (drop i text)
      → cond (goes_on n (get_or text i 0)) (Some (n * 10 + (get_or text i 0 - 48))) None ≡ None → None ≡ given text
  reading_stopped l r e = sym (next l r ∙ stops _ 0 _ _ e)

  pub reading_ended : i ≡ length text → given text ≡ read_on n (drop i text) → Some n ≡ given text
  unfolding read_on
  reading_ended all r = sym (r ∙ ap (λ (j : ℕ). read_on n (drop j text)) all ∙ ap (read_on n) (drop-length text))
