-- What a call that fills a buffer answers and leaves, by its faults and the room in its buffer. Assumes nothing.
use mathlib.Core.Path.{◌≡◌, sym, ap, ◌∙◌}
use mathlib.Core.List.{List, [], ◌∷◌, ◌++◌, head-eq_of_cons-eq}
use Prim.Native.Nat.{ℕ, ◌≤◌, ◌<◌}
use native.Mathlib.Omega.{arith}
use borrow.Author.Tests.{ne_eqb, lt-ltb, le-ltb}
use lib.Dec.{ltb}
use lib.ListN.{length, drop}
use Rattle.std.specs.Prelude.{Result, Ok, Err}
use Rattle.lists.specs.Lists.{on, first}
use Rattle.lists.proofs.Answers.{outcome_zero}
use Rattle.lists.proofs.Faults.{first_in}
use Rattle.picture.specs.declared.refusals.Refusal.{Refusal}
use Rattle.picture.specs.declared.refusals.Refusal.TheVariants.{Buffer}
use Rattle.picture.specs.Refusals.{refusal_number, answer_numbers}
use Rattle.picture.proofs.Finding.{tells, passes}
use Rattle.picture.proofs.Refusing.{number_some, refused_first, passed_first, answered_ok, answered_err, numbers_ok, numbers_err}
use Rattle.write.specs.Answers.{writing_numbers, filled, Fills}

-- a refusal tells its number and leaves the buffer
refused : {k size : ℕ} {bs buf : List ℕ} (e : Refusal) → refusal_number e ≡ k → Fills k size bs buf (Err e) buf
unfolding filled
refused {k} e q = record { answer = answered_err _ e q; numbers = numbers_err _ _ e q; bytes = rw (ne_eqb k 0 (λ z. number_some e (q ∙ z))) }

-- the number where a list of faults comes first, and a short buffer last
abbrev fault : List ℕ → ℕ → List ℕ → ℕ
fault xs size buf = first (xs ++ (on (ltb (length buf) size) 9 ∷ []))

module _ (xs : List ℕ) {size : ℕ} {bs buf : List ℕ} where
  -- there is a fault
  pub fills_faulty : (e : Refusal) → refusal_number e ≡ first xs → Fills (fault xs size buf) size bs buf (Err e) buf
  fills_faulty e q = refused e (refused_first e _ q ∙ first_in [] xs _)

  -- the buffer is too short
  pub fills_short : 0 ≡ first xs → length buf < size → Fills (fault xs size buf) size bs buf (Err Buffer) buf
  fills_short z s = refused Buffer (passed_first _ z (tells [] (lt-ltb (length buf) size s)) ∙ first_in [] xs _)

  -- nothing is wrong, and what was to be filled in stands in the buffer
  pub fills_made : {n : ℕ} {out : List ℕ} → 0 ≡ first xs → size ≤ length buf → n ≡ size → out ≡ bs ++ drop size buf → Fills (fault xs size buf) size bs buf (Ok n) out
  unfolding filled first
  fills_made z s e w =
      let none : 0 ≡ fault xs size buf = passed_first _ z (passes 9 [] (le-ltb (length buf) size s)) ∙ first_in [] xs (on (ltb (length buf) size) 9 ∷ []) in
      record { answer = answered_ok none e; numbers = numbers_ok _ none e; bytes = rw (sym none) w }

-- ---- from what is answered

-- a length that is answered is that of what was filled in, and keeps what bounds that
pub fills_most : {k size m : ℕ} {bs buf : List ℕ} {r : Result ℕ Refusal} {out : List ℕ} → Fills k size bs buf r out → (k ≡ 0 → size ≤ m) → (n : ℕ) → r ≡ Ok n → n ≤ m
unfolding answer_numbers
fills_most {k} f most n e =
    let t = outcome_zero k (sym f.numbers ∙ ap writing_numbers e) in
    omega (arith, head-eq_of_cons-eq t.1, most t.0)
