-- What a call that fills a buffer answers, by document 01's numbers, and the buffer that it leaves; and what writing does. Assumes nothing.
use Rattle.std.specs.Prelude.{cond, List, [], ◌∷◌, ◌++◌, ◌≡◌, ℕ, Result, eqb, drop}
use Rattle.lists.specs.Lists.{outcome}
use Rattle.picture.specs.declared.refusals.Refusal.{Refusal}
use Rattle.picture.specs.Refusals.{answer_of, answer_numbers}
use Rattle.picture.specs.Layout.{edition_for}
use Rattle.write.specs.Columns.{Lists, picture_from}
use Rattle.write.specs.Fields.{picture_bytes}
use Rattle.write.specs.Rules.{size_for}
use Rattle.write.specs.Faults.{write_fault}

-- 01's number and value for each case: the length of what was filled in, as of a picture
abbrev pub writing_numbers : Result ℕ Refusal → List ℕ
writing_numbers = answer_numbers (λ size. size ∷ [])

-- the buffer at exit, by the number of the first fault: what was filled in, and behind it the rest as it was; after a refusal all as it was
unfoldable pub filled : ℕ → ℕ → List ℕ → List ℕ → List ℕ
filled k size bs buf = cond (eqb k 0) (bs ++ drop size buf) buf

-- what a call that fills a buffer ensures: its answer, 01's number and value of it, and the buffer at exit
pub record Fills (k size : ℕ) (bs buf : List ℕ) (r : Result ℕ Refusal) (out : List ℕ) : Type 0 where
  pub answer : r ≡ answer_of k size
  pub numbers : writing_numbers r ≡ outcome k (size ∷ [])
  pub bytes : out ≡ filled k size bs buf

-- ---- of any lists and any buffer

-- what writing answers
unfoldable pub writing : Lists → List ℕ → Result ℕ Refusal
writing l buf = answer_of (write_fault l buf) (size_for l)

-- the picture of the lists
unfoldable pub bytes_for : Lists → List ℕ
bytes_for l = picture_bytes (edition_for l.edition) (picture_from l)

-- the buffer at exit
unfoldable pub written_bytes : Lists → List ℕ → List ℕ
written_bytes l buf = filled (write_fault l buf) (size_for l) (bytes_for l) buf

-- what the call ensures
abbrev pub Writes : Lists → List ℕ → Result ℕ Refusal → List ℕ → Type 0
Writes l buf = Fills (write_fault l buf) (size_for l) (bytes_for l) buf
