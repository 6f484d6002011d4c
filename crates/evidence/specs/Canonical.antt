-- The choice, and the evidence that document 01 fixes for a picture. Assumes nothing.
use Rattle.std.specs.Prelude.{Bool, ◌&&◌, cond, Option, Some, None, List, [], ◌∷◌, ◌++◌, map, ℕ, eqb, ltb, length}
use Rattle.lists.specs.Lists.{flat}
use Rattle.packing.specs.Packing.{Field, fields_of, packed}
use Rattle.graph.specs.declared.Node.{Node}
use Rattle.graph.specs.Rounds.{forest}
use Rattle.picture.specs.declared.Edition.{Edition}
use Rattle.picture.specs.Layout.{edition_of}
use Rattle.picture.specs.Picture.{Picture, picture_of}
use Rattle.network.specs.Words.{slot_count, is_held, held_without, joins}
use Rattle.network.specs.declared.Cost.{Cost}
use Rattle.network.specs.Tests.{weighed, served_weight, candidates}
use Rattle.evidence.specs.declared.Stated.{Stated}
use Rattle.evidence.specs.Layout.{head_widths, node_widths, section_head_widths}

-- a cost that no list has, for a place past its end
abbrev pub no_cost : Cost
no_cost = record { block = 0; loss = 0; cuts = 0; mark = 0 }

-- what a section states of a cost: all but how many endpoints are cut
abbrev pub stated_of : Cost → Stated
stated_of w = record { block = w.block; loss = w.loss; mark = w.mark }

-- the candidates as they weigh, in rising order
unfoldable pub weighings : Picture → List Cost
weighings p = map (weighed p) (candidates p)

-- the order of choice (02, C-12: "by weight, then cabs cut, then block number"): a candidate loses less or, where it loses as much, it cuts
-- fewer endpoints. The candidates come in rising order, so that of equal ones the lowest stays
unfoldable pub is_less : Cost → Cost → Bool
is_less w c = cond (eqb w.loss c.loss) (ltb w.cuts c.cuts) (ltb w.loss c.loss)

-- the choice with one candidate more: it is taken where it cuts no protected endpoint, and none was chosen before or it comes before that one
unfoldable pub bettered : Option Cost → Cost → Option Cost
bettered None w = cond (eqb w.mark 0) (Some w) None
bettered (Some c) w = cond (eqb w.mark 0 && is_less w c) (Some w) (Some c)

-- the choice after each candidate of a list
unfoldable pub bettering : Option Cost → List Cost → Option Cost
bettering c [] = c
bettering c (w ∷ ws) = bettering (bettered c w) ws

-- the admissible candidate of least loss, of these one that cuts fewest endpoints, the lowest number among equals, or none
unfoldable pub least : List Cost → Option Cost
least ws = bettering None ws

-- the choice of a picture, among its candidates
unfoldable pub choice : Picture → Option Cost
choice p = least (weighings p)

-- what the head states of a choice: verdict 1 with its block and loss, or "none", which is verdict 0 with block 0 and loss 0
abbrev pub verdict_of : Option Cost → ℕ
verdict_of None = 0
verdict_of (Some c) = 1

abbrev pub chosen_block : Option Cost → ℕ
chosen_block None = 0
chosen_block (Some c) = c.block

abbrev pub chosen_loss : Option Cost → ℕ
chosen_loss None = 0
chosen_loss (Some c) = c.loss

-- ---- the fields of the evidence, in their order

-- the head: edition, verdict, block, candidate count, served weight, loss
unfoldable pub head_fields : Edition → Option Cost → ℕ → ℕ → List Field
head_fields e c count served = fields_of head_widths (e.number ∷ verdict_of c ∷ chosen_block c ∷ count ∷ served ∷ chosen_loss c ∷ [])

-- a slot's parent and depth, and those of all slots
unfoldable pub node_fields : Edition → Node → List Field
node_fields e x = fields_of (node_widths e) (x.parent ∷ x.depth ∷ [])

unfoldable pub forest_fields : Edition → List Node → List Field
forest_fields e xs = flat (map (node_fields e) xs)

-- the forest of the picture's links through what is held
unfoldable pub forest_of : Picture → (ℕ → Bool) → List Node
forest_of p held = forest (joins p.links) held (slot_count p)

-- a candidate's section: its block, loss and mark, and the forest with that block evicted
unfoldable pub section_fields : Edition → Picture → Cost → List Field
section_fields e p w = fields_of section_head_widths (w.block ∷ w.loss ∷ w.mark ∷ []) ++ forest_fields e (forest_of p (held_without p w.block))

-- the head, the first forest, and a section for each candidate
unfoldable pub evidence_fields : Edition → Picture → List Field
evidence_fields e p =
    let ws : List Cost = weighings p in
    head_fields e (least ws) (length ws) (served_weight p) ++ (forest_fields e (forest_of p (is_held p)) ++ flat (map (section_fields e p) ws))

-- the evidence, byte for byte
unfoldable pub evidence_of : List ℕ → List ℕ
evidence_of bs = packed (evidence_fields (edition_of bs) (picture_of bs))
