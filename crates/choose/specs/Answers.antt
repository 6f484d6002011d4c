-- What choose answers, by document 01's numbers. Assumes nothing.
use Rattle.std.specs.Prelude.{List, [], ◌∷◌, ℕ, Result}
use Rattle.picture.specs.declared.refusals.Refusal.{Refusal}
use Rattle.picture.specs.Refusals.{answer_of, answer_numbers}
use Rattle.evidence.specs.Calls.{length_for, choose_fault}

-- what choosing answers for any picture and any buffer: the evidence's length
unfoldable pub choosing : List ℕ → List ℕ → Result ℕ Refusal
choosing bs buf = answer_of (choose_fault bs buf) (length_for bs)

-- 01's number and value for each case
abbrev pub choosing_numbers : Result ℕ Refusal → List ℕ
choosing_numbers = answer_numbers (λ size. size ∷ [])
