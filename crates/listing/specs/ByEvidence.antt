-- The same lines off evidence: what the code writes, and is proved equal to the listing. Assumes nothing.
use Rattle.std.specs.Prelude.{List, ◌++◌, map, ℕ}
use Rattle.lists.specs.Lists.{range, flat}
use Rattle.picture.specs.declared.Edition.{Edition}
use Rattle.evidence.specs.Contents.{head_in, section_in}
use Rattle.listing.specs.Listing.{served_line, block_line, choice_line}

-- the lines of the first k sections of an edition's evidence for n slots
unfoldable pub section_lines : Edition → ℕ → List ℕ → ℕ → List ℕ
section_lines e n ev k = flat (map (λ i. block_line (section_in e n ev i)) (range 0 k))

-- all lines, off that evidence
unfoldable pub evidence_lines : Edition → ℕ → List ℕ → List ℕ
evidence_lines e n ev =
    served_line (head_in ev).served
    ++ (section_lines e n ev (head_in ev).count ++ choice_line (head_in ev).verdict (head_in ev).block (head_in ev).loss)
