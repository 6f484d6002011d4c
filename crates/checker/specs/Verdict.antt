-- What the sections of evidence state, and where the first section of a block stands. Assumes nothing.
use Rattle.std.specs.Prelude.{List, map, ℕ, eqb, length, get_or}
use Rattle.lists.specs.Lists.{range, place}
use Rattle.picture.specs.declared.Edition.{Edition}
use Rattle.network.specs.declared.Cost.{Cost}
use Rattle.evidence.specs.declared.Stated.{Stated}
use Rattle.evidence.specs.Contents.{section_in}

-- what section i states, with the number of endpoints that its block cuts
unfoldable pub cost_in : Edition → ℕ → List ℕ → List ℕ → ℕ → Cost
cost_in e n ev cuts i =
    let w : Stated = section_in e n ev i in
    record { block = w.block; loss = w.loss; cuts = get_or cuts i 0; mark = w.mark }

-- the same of all sections, in their order: of each it is counted how many endpoints its block cuts
unfoldable pub stated : Edition → ℕ → List ℕ → List ℕ → List Cost
stated e n ev cuts = map (cost_in e n ev cuts) (range 0 (length cuts))

-- the place of the first section of block b, or their number where none is
unfoldable pub section_named : Edition → ℕ → List ℕ → ℕ → ℕ → ℕ
section_named e n ev count b = place (λ i. eqb (section_in e n ev i).block b) (range 0 count)
