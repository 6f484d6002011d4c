-- Weigh: a picture of any bytes and any block number. Document 01: "Weigh takes a block and gives served weight, loss, and mark (1 if it
-- cuts a protected cab, else 0)". Assumes nothing.
use Rattle.std.specs.Prelude.{List, [], ◌∷◌, ℕ, Result, leb}
use Rattle.lists.specs.Lists.{on, first}
use Rattle.picture.specs.declared.refusals.Refusal.{Refusal}
use Rattle.picture.specs.Refusals.{answer_of, answer_numbers}
use Rattle.picture.specs.Picture.{Picture, picture_of}
use Rattle.picture.specs.Faults.{picture_fault}
use Rattle.network.specs.Words.{block_count}
use Rattle.network.specs.Tests.{served_weight, weighed}
use Rattle.weigh.specs.declared.Weights.{Weights}

-- 8: the block is not below n/β
unfoldable pub block_fault : Picture → ℕ → ℕ
block_fault p b = on (leb (block_count p) b) 8

-- the picture's fault, then 8
unfoldable pub weigh_fault : List ℕ → ℕ → ℕ
weigh_fault bs b = first (picture_fault bs ∷ block_fault (picture_of bs) b ∷ [])

-- what weighing block b of a picture gives
unfoldable pub weights_of : Picture → ℕ → Weights
weights_of p b = record { served = served_weight p; loss = (weighed p b).loss; mark = (weighed p b).mark }

-- the answer for a picture of any bytes and any block
unfoldable pub weighing : List ℕ → ℕ → Result Weights Refusal
weighing bs b = answer_of (weigh_fault bs b) (weights_of (picture_of bs) b)

-- 01's values, in its order: served weight, loss, mark
unfoldable pub weight_values : Weights → List ℕ
weight_values w = w.served ∷ w.loss ∷ w.mark ∷ []

-- 01's number and values for each case: 0 and the values, or the number of the refusal
abbrev pub weighing_numbers : Result Weights Refusal → List ℕ
weighing_numbers = answer_numbers weight_values
