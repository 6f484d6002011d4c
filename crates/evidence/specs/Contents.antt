-- What the bytes of evidence say: its head, what each section states, and its forests. Assumes nothing.
use Rattle.std.specs.Prelude.{List, ℕ, suc}
use Rattle.lists.specs.Lists.{sum}
use Rattle.graph.specs.declared.Node.{Node}
use Rattle.picture.specs.declared.Edition.{Edition}
use Rattle.picture.specs.Layout.{field_in}
use Rattle.picture.specs.Picture.{rows}
use Rattle.evidence.specs.declared.Head.{Head}
use Rattle.evidence.specs.declared.Stated.{Stated}
use Rattle.evidence.specs.Layout.{head_widths, node_widths, section_head_widths, section_at, forest_at}

-- the head: edition, verdict, block, candidate count, served weight, loss
unfoldable pub head_in : List ℕ → Head
head_in ev =
    record {
      edition = field_in ev head_widths 0 0;
      verdict = field_in ev head_widths 0 1;
      block = field_in ev head_widths 0 2;
      count = field_in ev head_widths 0 3;
      served = field_in ev head_widths 0 4;
      loss = field_in ev head_widths 0 5;
    }

-- what section i states: its block, loss and mark
unfoldable pub section_in : Edition → ℕ → List ℕ → ℕ → Stated
section_in e n ev i =
    let at : ℕ = section_at e n i in
    record { block = field_in ev section_head_widths at 0; loss = field_in ev section_head_widths at 1; mark = field_in ev section_head_widths at 2 }

-- the node from bit q on, and the n nodes from there on
unfoldable pub node_at : Edition → List ℕ → ℕ → Node
node_at e ev q = record { parent = field_in ev (node_widths e) q 0; depth = field_in ev (node_widths e) q 1 }

unfoldable pub forest_in : Edition → ℕ → List ℕ → ℕ → List Node
forest_in e n ev q = rows (node_at e ev) q (sum (node_widths e)) n

-- the first forest, and that of section i
unfoldable pub first_forest : Edition → ℕ → List ℕ → List Node
first_forest e n ev = forest_in e n ev (forest_at e n 0)

unfoldable pub section_forest : Edition → ℕ → List ℕ → ℕ → List Node
section_forest e n ev i = forest_in e n ev (forest_at e n (suc i))
