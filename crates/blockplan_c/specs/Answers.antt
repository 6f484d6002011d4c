-- What the calls for C answer: "A check that passes and an act that is done return 0; to C a refusal is minus its number", and choose "returns
-- its length", as do write and generate; price returns 0. Assumes nothing.
use Rattle.std.specs.Prelude.{List, [], ◌∷◌, ◌++◌, ◌≡◌, ℕ, zero, suc, ◌≤◌, Result, ltb, length, ℤ, pos, neg_ℤ}
use Rattle.lists.specs.Lists.{on, first}
use Rattle.lists.specs.Rules.{Rule}
use Rattle.picture.specs.declared.refusals.Refusal.{Refusal}
use Rattle.picture.specs.Layout.{blocks_max}
use Rattle.picture.specs.Picture.{picture_of}
use Rattle.price.specs.Traffic.{records_of}
use Rattle.price.specs.Rules.{price_rules}
use Rattle.price.specs.Faults.{price_fault}
use Rattle.price.specs.Answers.{counters}
use Rattle.write.specs.Columns.{Lists}
use Rattle.write.specs.Answers.{writing, writing_numbers, written_bytes, filled, Fills}

-- one number for 01's number and values of an answer
unfoldable pub to_c : List ℕ → ℤ
to_c [] = pos 0
to_c (zero ∷ []) = pos 0
to_c (zero ∷ v ∷ vs) = pos v
to_c (suc k ∷ vs) = neg_ℤ (pos (suc k))

-- what the call that writes a picture ensures: its number, and the buffer at exit
pub record WritesForC (l : Lists) (buf : List ℕ) (r : ℤ) (out : List ℕ) : Type 0 where
  pub answer : r ≡ to_c (writing_numbers (writing l buf))
  pub bytes : out ≡ written_bytes l buf

-- ---- price, whose counters go into a buffer for C (02, C-16: sixty of them)

-- the rules with their numbers: those of price, and last that the buffer has room
unfoldable pub price_into_rules : List ℕ → List ℕ → List ℕ → List Rule
price_into_rules bs records buf = price_rules bs records ++ (record { number = 9; holds = blocks_max ≤ length buf } ∷ [])

-- the number of the first fault
unfoldable pub price_into_fault : List ℕ → List ℕ → List ℕ → ℕ
price_into_fault bs records buf = first (price_fault bs records ∷ on (ltb (length buf) blocks_max) 9 ∷ [])

-- the buffer at exit: the counters, and the rest as it was; after a refusal all as it was
unfoldable pub priced_into : List ℕ → List ℕ → List ℕ → List ℕ
priced_into bs records buf = filled (price_into_fault bs records buf) blocks_max (counters (picture_of bs) (records_of records)) buf

-- what pricing into a buffer ensures: its answer, how many counters were written, and the buffer at exit
abbrev pub PricesInto : List ℕ → List ℕ → List ℕ → Result ℕ Refusal → List ℕ → Type 0
PricesInto bs records buf = Fills (price_into_fault bs records buf) blocks_max (counters (picture_of bs) (records_of records)) buf
