-- Refusals and answers, for every call: document 01's numbers for each of their cases. Assumes nothing.
use Rattle.std.specs.Prelude.{List, [], ◌∷◌, ◌++◌, ℕ, zero, suc, ◌-◌, Result, Ok, Err, get_or, codes, decimal}
use Rattle.picture.specs.declared.refusals.Refusal.{Refusal}
use Rattle.picture.specs.declared.refusals.Refusal.TheVariants.{Short, Edition, Blocks, Counts, State, Link, Fill, NoBlock, Buffer, Protected, NoChange, Near, Form, Forest, Weight, Verdict, ServiceLocation, ServiceEndpoint, LinkStart, Records, RecordEndpoint}

-- the number of each refusal
abbrev pub refusal_number : Refusal → ℕ
refusal_number Short = 1
refusal_number Edition = 2
refusal_number Blocks = 3
refusal_number Counts = 4
refusal_number State = 5
refusal_number Link = 6
refusal_number Fill = 7
refusal_number NoBlock = 8
refusal_number Buffer = 9
refusal_number Protected = 10
refusal_number NoChange = 11
refusal_number Near = 12
refusal_number Form = 13
refusal_number Forest = 14
refusal_number Weight = 15
refusal_number Verdict = 16
refusal_number ServiceLocation = 17
refusal_number ServiceEndpoint = 18
refusal_number LinkStart = 19
refusal_number Records = 20
refusal_number RecordEndpoint = 21

-- "refused 7": what a refusal prints, a word and its number in decimal
abbrev pub refusal_text : Refusal → List ℕ
refusal_text e = codes "refused " ++ decimal (refusal_number e)

-- the refusals in the order of their numbers, from 1 on
abbrev pub refusals : List Refusal
refusals = Short ∷ Edition ∷ Blocks ∷ Counts ∷ State ∷ Link ∷ Fill ∷ NoBlock ∷ Buffer ∷ Protected ∷ NoChange ∷ Near ∷ Form ∷ Forest ∷ Weight ∷ Verdict ∷ ServiceLocation ∷ ServiceEndpoint ∷ LinkStart ∷ Records ∷ RecordEndpoint ∷ []

-- the refusal of a number. 0 and what is over 21 are none, and stand for the first here: no call has such a first fault but 0, where it is done
unfoldable pub refusal_of : ℕ → Refusal
refusal_of k = get_or refusals (k - 1) Short

-- the number that an answer tells: 0 where the call is done, and a refusal's own
abbrev pub fault_of : {A : Type 0} → Result A Refusal → ℕ
fault_of (Ok v) = 0
fault_of (Err e) = refusal_number e

-- the answer by the number of the first fault: 0 is done, and gives a value; any other number is a refusal
unfoldable pub answer_of : {A : Type 0} → ℕ → A → Result A Refusal
answer_of zero v = Ok v
answer_of (suc k) v = Err (refusal_of (suc k))

-- what an answer tells: 0 and its values, or the number of a refusal and nothing else
unfoldable pub answer_numbers : {A : Type 0} → (A → List ℕ) → Result A Refusal → List ℕ
answer_numbers values (Ok v) = 0 ∷ values v
answer_numbers values (Err e) = refusal_number e ∷ []
