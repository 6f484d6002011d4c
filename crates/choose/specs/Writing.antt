-- The fields of a forest that stands in arrays, and what fits. Assumes nothing.
use Rattle.std.specs.Prelude.{Option, List, [], ◌∷◌, ◌++◌, map, ℕ, ◌+◌, ◌*◌, ◌^◌, ◌≤◌, ◌<◌, length, get_or}
use Rattle.lists.specs.Lists.{range, sum}
use Rattle.packing.specs.Packing.{Field, fields_of}
use Rattle.rows.specs.Rows.{slots_max}
use Rattle.graph.specs.declared.Forest.{Forest}
use Rattle.graph.specs.declared.Node.{Node}
use Rattle.picture.specs.declared.Edition.{Edition}
use Rattle.picture.specs.declared.Header.{Header}
use Rattle.picture.specs.Inner.{Limited}
use Rattle.network.specs.declared.Cost.{Cost}
use Rattle.evidence.specs.Layout.{head_widths, node_bytes, section_head_widths, evidence_max}
use Rattle.evidence.specs.Canonical.{verdict_of, chosen_block, chosen_loss, forest_fields}

-- the nodes of the slots 1 to n, in arrays that start at location 0
unfoldable pub nodes_in : Forest → ℕ → List Node
nodes_in f n = map (λ v. record { parent = get_or f.parent v 0; depth = get_or f.depth v 0 }) (range 1 n)

-- the fields of a section whose forest is in arrays
unfoldable pub array_section : Edition → Cost → Forest → ℕ → List Field
array_section e w f n = fields_of section_head_widths (w.block ∷ w.loss ∷ w.mark ∷ []) ++ forest_fields e (nodes_in f n)

-- a forest in arrays has an entry for each slot, its entries fit their widths, and there is room for it from byte `at` on. A place is low
-- enough for the numbers of the code
pub record ForestFits (h : Header) (at : ℕ) (f : Forest) (buf : List ℕ) : Type 0 where
  pub limited : Limited h
  pub room : at + h.slots * node_bytes h.edition ≤ length buf
  pub low : at ≤ evidence_max
  pub few : h.slots ≤ slots_max
  pub parent : (v : ℕ) → v < h.slots → get_or f.parent (v + 1) 0 < 2 ^ h.edition.location_bits
  pub depth : (v : ℕ) → v < h.slots → get_or f.depth (v + 1) 0 < 2 ^ h.edition.location_bits

-- the values of a section's fields fit their widths, and there is room for them
pub record SectionFits (h : Header) (at : ℕ) (w : Cost) (f : Forest) (buf : List ℕ) : Type 0 where
  pub block : w.block < 2 ^ 8
  pub loss : w.loss < 2 ^ 24
  pub mark : w.mark < 2 ^ 8
  pub forest : ForestFits h (at + 5) f buf

-- the same of the head
pub record HeadFits (e : Edition) (c : Option Cost) (count served : ℕ) (buf : List ℕ) : Type 0 where
  pub room : sum head_widths ≤ length buf * 8
  pub edition : e.number < 2 ^ 4
  pub verdict : verdict_of c < 2 ^ 4
  pub block : chosen_block c < 2 ^ 8
  pub few : count < 2 ^ 8
  pub weight : served < 2 ^ 24
  pub loss : chosen_loss c < 2 ^ 24
