-- What an act answers, by document 01's numbers, and the bytes that it leaves. Assumes nothing.
use Rattle.std.specs.Prelude.{cond, List, [], ℕ, eqb, Result}
use Rattle.picture.specs.declared.refusals.Refusal.{Refusal}
use Rattle.picture.specs.Refusals.{answer_of, answer_numbers}
use Rattle.acts.specs.declared.Act.{Act}
use Rattle.acts.specs.Acts.{done_bytes}
use Rattle.acts.specs.Faults.{act_fault}

-- what an act on block b of any bytes answers
unfoldable pub acting : Act → List ℕ → ℕ → Result (Unit {0}) Refusal
acting a bs b = answer_of (act_fault a bs b) tt

-- 01's number for each case
abbrev pub acting_numbers : Result (Unit {0}) Refusal → List ℕ
acting_numbers = answer_numbers (λ _. [])

-- the picture's bytes at exit; after a refusal all as they were
unfoldable pub act_bytes : Act → List ℕ → ℕ → List ℕ
act_bytes a bs b =
    let done : List ℕ = done_bytes a bs b in
    cond (eqb (act_fault a bs b) 0) done bs
