-- What the answer of reading tells. Assumes nothing.
use mathlib.Core.Path.{◌≡◌, refl}
use mathlib.Core.List.{List}
use Prim.Native.Nat.{ℕ, zero, suc}
use native.Mathlib.Omega.{arith}
use Rattle.std.specs.Prelude.{Ok, Err}
use Rattle.lists.specs.Lists.{outcome}
use Rattle.picture.specs.declared.Header.{Header}
use Rattle.picture.specs.declared.refusals.Refusal.{Refusal}
use Rattle.picture.specs.Refusals.{refusal_number, answer_of, answer_numbers}
use Rattle.picture.specs.Picture.{header_of}
use Rattle.picture.specs.Faults.{picture_fault}
use Rattle.picture.specs.Answers.{reading, header_values, reading_numbers}
use Rattle.picture.specs.Inner.{Read}
use Rattle.picture.proofs.Refusing.{refused_number}

pub accepted_read : (bs : List ℕ) (h : Header) → Ok h ≡ reading bs → Read bs h
unfolding reading answer_of picture_fault header_of
accepted_read bs h e = go (picture_fault bs) refl e
  where
    go : (k : ℕ) → picture_fault bs ≡ k → Ok h ≡ answer_of k (header_of bs) → Read bs h
    go zero f q = record { accepted = f; header = cc }
    go (suc k) f q = let z : ◌≡◌ {A = ℕ} 0 1 = cc in absurd (omega arith)

-- refused bytes have the fault whose number is told
pub refused_fault : (bs : List ℕ) (e : Refusal) → reading_numbers (Err e) ≡ outcome (picture_fault bs) (header_values (header_of bs))
    → refusal_number e ≡ picture_fault bs
unfolding answer_numbers
refused_fault bs e q = refused_number _ e q
