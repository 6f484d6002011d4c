-- The layout of evidence: the widths of its fields in their order, and where each section starts. Assumes nothing.
use Rattle.std.specs.Prelude.{List, [], ◌∷◌, ℕ, zero, suc, ◌+◌, ◌*◌, ◌/◌}
use Rattle.lists.specs.Lists.{sum}
use Rattle.picture.specs.declared.Edition.{Edition}
use Rattle.picture.specs.Layout.{}

-- head: edition, verdict, block, candidate count C, served weight, loss
unfoldable pub head_widths : List ℕ
head_widths = 4 ∷ 4 ∷ 8 ∷ 8 ∷ 24 ∷ 24 ∷ []

-- a node of a forest: parent, depth
unfoldable pub node_widths : Edition → List ℕ
node_widths e = e.location_bits ∷ e.location_bits ∷ []

-- the same in bytes: whole ones, two in edition 1 and three in edition 2
unfoldable pub node_bytes : Edition → ℕ
node_bytes e = sum (node_widths e) / 8

-- what a candidate's section has before its forest: block, loss, mark
unfoldable pub section_head_widths : List ℕ
section_head_widths = 8 ∷ 24 ∷ 8 ∷ []

-- the forest of n slots
unfoldable pub forest_bits : Edition → ℕ → ℕ
forest_bits e n = n * sum (node_widths e)

-- a section: what it has before its forest, and the forest
unfoldable pub section_bits : Edition → ℕ → ℕ
section_bits e n = sum section_head_widths + forest_bits e n

-- the same in bytes: every edition's sections take whole ones
unfoldable pub section_bytes : Edition → ℕ → ℕ
section_bytes e n = section_bits e n / 8

-- where section i starts, after the head, the first forest and the sections before it
unfoldable pub section_at : Edition → ℕ → ℕ → ℕ
section_at e n i = sum head_widths + forest_bits e n + i * section_bits e n

-- where forest k starts: forest 0 is the first one, behind the head; forest i + 1 is that of section i, behind what the section has before it
unfoldable pub forest_at : Edition → ℕ → ℕ → ℕ
forest_at e n zero = sum head_widths
forest_at e n (suc i) = section_at e n i + sum section_head_widths

-- the length in bytes for c candidates: 9 + 2n + C(5 + 2n) in edition 1, and 9 + 3n + C(5 + 3n) in edition 2
unfoldable pub evidence_bytes : Edition → ℕ → ℕ → ℕ
evidence_bytes e n c = section_at e n c / 8

-- the longest evidence, in bytes: in edition 2, for sixty blocks of five slots
abbrev pub evidence_max : ℕ
evidence_max = 55209
