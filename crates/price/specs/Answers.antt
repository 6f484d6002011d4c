-- What pricing answers, by document 01's numbers. 02, C-16: "Sixty counters of 32 bits are returned, 0 past the last block". Assumes nothing.
use Rattle.std.specs.Prelude.{Bool, List, ◌++◌, map, ℕ, ◌-◌, Result, replicate}
use Rattle.lists.specs.Lists.{range}
use Rattle.picture.specs.declared.refusals.Refusal.{Refusal}
use Rattle.picture.specs.Refusals.{answer_of, answer_numbers}
use Rattle.picture.specs.Layout.{blocks_max}
use Rattle.picture.specs.Picture.{Picture, picture_of}
use Rattle.network.specs.Words.{block_count, is_held, held_without}
use Rattle.network.specs.Tests.{marks, cut, sum_where}
use Rattle.price.specs.declared.Record.{Record}
use Rattle.price.specs.Traffic.{records_of, traffic}
use Rattle.price.specs.Faults.{price_fault}

-- sixty: that of each block is its loss "when a cab weighs the sum of its records", and past the last block they are 0
unfoldable pub counters : Picture → List Record → List ℕ
counters p rs =
    let now : List Bool = marks p (is_held p) in
    map (λ b. sum_where p (traffic rs) (cut p now (marks p (held_without p b)))) (range 0 (block_count p)) ++ replicate (blocks_max - block_count p) 0

-- the answer for a picture of any bytes and records of any bytes
unfoldable pub pricing : List ℕ → List ℕ → Result (List ℕ) Refusal
pricing bs records = answer_of (price_fault bs records) (counters (picture_of bs) (records_of records))

-- 01's number and values for each case: 0 and the counters, or the number of the refusal
abbrev pub pricing_numbers : Result (List ℕ) Refusal → List ℕ
pricing_numbers = answer_numbers (λ counters. counters)
