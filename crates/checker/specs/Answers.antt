-- What check answers, by document 01's numbers, and where the part lies that show hands back. Assumes nothing.
use Rattle.std.specs.Prelude.{List, [], ℕ, ◌+◌, Result}
use Rattle.picture.specs.declared.refusals.Refusal.{Refusal}
use Rattle.picture.specs.Refusals.{answer_of, answer_numbers}
use Rattle.evidence.specs.Checks.{check_fault}

-- what a check of any evidence against any picture answers
unfoldable pub checking : List ℕ → List ℕ → Result (Unit {0}) Refusal
checking bs ev = answer_of (check_fault bs ev) tt

-- 01's number for each case
abbrev pub checking_numbers : Result (Unit {0}) Refusal → List ℕ
checking_numbers = answer_numbers (λ _. [])

-- a place in memory is a block of it and an offset there: the place k bytes on
abbrev pub past : ℕ × ℕ → ℕ → ℕ × ℕ
past p k = (p.0, p.1 + k)
