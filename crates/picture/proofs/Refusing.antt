-- Refusals and their numbers, and what answers tell. Assumes nothing.
use mathlib.Core.Path.{◌≡◌, refl, sym, ap, ◌∙◌}
use mathlib.Core.Bool.{true, false, true≢false}
use mathlib.Core.List.{List, [], ◌∷◌}
use mathlib.Core.Logic.{◌≢◌}
use Prim.Native.Nat.{ℕ, zero, suc}
use native.Mathlib.Omega.{arith}
use Rattle.std.specs.Prelude.{Result, Ok, Err, IsErrAnd, is_err}
use Rattle.std.proofs.lemmas.Result.{err_from_is_err_and}
use Rattle.lists.specs.Lists.{first, outcome}
use Rattle.picture.specs.declared.refusals.Refusal.{Refusal}
use Rattle.picture.specs.declared.refusals.Refusal.TheVariants.{Short, Edition, Blocks, Counts, State, Link, Fill, NoBlock, Buffer, Protected, NoChange, Near, Form, Forest, Weight, Verdict, ServiceLocation, ServiceEndpoint, LinkStart, Records, RecordEndpoint}
use Rattle.picture.specs.Refusals.{refusal_number, refusal_of, fault_of, answer_of, answer_numbers}

-- a refusal has a number, and is the refusal of it
pub record Numbered (e : Refusal) : Type 0 where
  pub less : ℕ
  pub number : refusal_number e ≡ suc less
  pub back : refusal_of (refusal_number e) ≡ e

pub numbered : (e : Refusal) → Numbered e
unfolding refusal_of
numbered Short = record { less = 0; number = refl; back = refl }
numbered Edition = record { less = 1; number = refl; back = refl }
numbered Blocks = record { less = 2; number = refl; back = refl }
numbered Counts = record { less = 3; number = refl; back = refl }
numbered State = record { less = 4; number = refl; back = refl }
numbered Link = record { less = 5; number = refl; back = refl }
numbered Fill = record { less = 6; number = refl; back = refl }
numbered NoBlock = record { less = 7; number = refl; back = refl }
numbered Buffer = record { less = 8; number = refl; back = refl }
numbered Protected = record { less = 9; number = refl; back = refl }
numbered NoChange = record { less = 10; number = refl; back = refl }
numbered Near = record { less = 11; number = refl; back = refl }
numbered Form = record { less = 12; number = refl; back = refl }
numbered Forest = record { less = 13; number = refl; back = refl }
numbered Weight = record { less = 14; number = refl; back = refl }
numbered Verdict = record { less = 15; number = refl; back = refl }
numbered ServiceLocation = record { less = 16; number = refl; back = refl }
numbered ServiceEndpoint = record { less = 17; number = refl; back = refl }
numbered LinkStart = record { less = 18; number = refl; back = refl }
numbered Records = record { less = 19; number = refl; back = refl }
numbered RecordEndpoint = record { less = 20; number = refl; back = refl }

-- no refusal has number 0
pub number_some : (e : Refusal) → refusal_number e ≢ 0
number_some e z = let k = (numbered e).number in omega (arith, z, k)

-- what is no refusal tells 0, and what is one does not
pub ok_fault : {A : Type 0} (r : Result A Refusal) → is_err r ≡ false → fault_of r ≡ 0
ok_fault (Ok v) e = refl
ok_fault (Err e) q = absurd (true≢false q)

pub err_fault : {A : Type 0} (r : Result A Refusal) → is_err r ≡ true → fault_of r ≢ 0
err_fault (Ok v) e = absurd (true≢false (sym e))
err_fault (Err e) q = number_some e

-- ---- a refusal, or none, among tests in their order

-- it is told first
pub refused_first : (e : Refusal) {k : ℕ} (l : List ℕ) → refusal_number e ≡ k → refusal_number e ≡ first (k ∷ l)
unfolding first
refused_first e {k} l q = q ∙ go k (λ z. number_some e (q ∙ z))
  where
    go : (j : ℕ) → j ≢ 0 → j ≡ first (j ∷ l)
    go zero n = absurd (n refl)
    go (suc j) n = refl

-- none told by the first test: what the others tell
pub passed_first : {k x : ℕ} (l : List ℕ) → 0 ≡ k → x ≡ first l → x ≡ first (k ∷ l)
unfolding first
passed_first {k} l z e = e ∙ ap (λ (j : ℕ). first (j ∷ l)) z

-- a refusal that `?` passes on has the number that was told
pub passed_on : {A : Type 0} (r : Result A Refusal) {Q : Refusal → Type 0} {k : ℕ} → IsErrAnd r Q → ((y : Refusal) → Q y → refusal_number y ≡ k) → fault_of r ≡ k
passed_on r q h = let p = err_from_is_err_and r q in rw p.1 (h p.0 p.2)

-- ---- answers by the number of the first fault

pub answered_ok : {A : Type 0} {k : ℕ} {v w : A} → 0 ≡ k → w ≡ v → Ok w ≡ answer_of k v
unfolding answer_of
answered_ok {A} {k} {v} z e = ap Ok e ∙ ap (λ (j : ℕ). answer_of j v) z

pub answered_err : {A : Type 0} {k : ℕ} (v : A) (e : Refusal) → refusal_number e ≡ k → Err e ≡ answer_of k v
unfolding answer_of
answered_err {A} {k} v e q =
    let n = numbered e in
    ap Err (sym n.back ∙ ap refusal_of n.number) ∙ ap (λ (j : ℕ). answer_of j v) (sym n.number ∙ q)

-- and 01's number and values of the answer are those
pub numbers_ok : {A : Type 0} (values : A → List ℕ) {k : ℕ} {v w : A} → 0 ≡ k → w ≡ v → answer_numbers values (Ok w) ≡ outcome k (values v)
unfolding answer_numbers outcome
numbers_ok values {k} {v} z e = ap (λ x. 0 ∷ values x) e ∙ ap (λ (j : ℕ). outcome j (values v)) z

pub numbers_err : {A : Type 0} (values : A → List ℕ) (v : A) (e : Refusal) {k : ℕ} → refusal_number e ≡ k → answer_numbers values (Err e) ≡ outcome k (values v)
unfolding answer_numbers outcome
numbers_err values v e {k} q = ap (λ (j : ℕ). j ∷ []) q ∙ go k (λ z. number_some e (q ∙ z))
  where
    go : (j : ℕ) → j ≢ 0 → j ∷ [] ≡ outcome j (values v)
    go zero n = absurd (n refl)
    go (suc j) n = refl

-- the same of an answer without a value
pub judged_answer : {k : ℕ} (r : Result (Unit {0}) Refusal) → fault_of r ≡ k → r ≡ answer_of k tt
judged_answer (Ok w) q = answered_ok q refl
judged_answer (Err e) q = answered_err tt e q

pub judged_numbers : {k : ℕ} (r : Result (Unit {0}) Refusal) → fault_of r ≡ k → answer_numbers (λ _. []) r ≡ outcome k []
judged_numbers (Ok w) q = numbers_ok (λ _. []) q refl
judged_numbers (Err e) q = numbers_err (λ _. []) tt e q

-- the number of a refusal by what it tells
pub refused_number : {k : ℕ} (vs : List ℕ) (e : Refusal) → refusal_number e ∷ [] ≡ outcome k vs → refusal_number e ≡ k
unfolding outcome
refused_number {k = zero} vs e q = let z : refusal_number e ≡ 0 = cc in absurd (number_some e z)
refused_number {k = suc k} vs e q = cc

-- ---- from the number of the first fault to the answer

-- 0 is done, and tells its values
pub done_numbers : {A : Type 0} (values : A → List ℕ) (v : A) {k : ℕ} → k ≡ 0 → answer_numbers values (answer_of k v) ≡ 0 ∷ values v
unfolding answer_of answer_numbers
done_numbers values v z = rw z refl

-- and only what is done tells 0
pub done_fault : {A : Type 0} (values : A → List ℕ) (v : A) (k : ℕ) {ws : List ℕ} → answer_numbers values (answer_of k v) ≡ 0 ∷ ws → k ≡ 0
unfolding answer_of answer_numbers
done_fault values v zero q = refl
done_fault values v (suc k) q = let z : refusal_number (refusal_of (suc k)) ≡ 0 = cc in absurd (number_some (refusal_of (suc k)) z)

-- what is done is no refusal
pub done_unrefused : {A : Type 0} {k : ℕ} (v : A) → k ≡ 0 → (e : Refusal) → answer_of k v ≢ Err e
unfolding answer_of
done_unrefused v z e q = absurd (number_some e (ap fault_of (sym q) ∙ ap (λ (j : ℕ). fault_of (answer_of j v)) z))
