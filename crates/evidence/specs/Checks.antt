-- What a check finds in evidence from anywhere: the number of the first fault, in the order of document 01. Assumes nothing.
use Rattle.std.specs.Prelude.{Bool, not, ◌&&◌, ◌||◌, cond, Option, Some, None, List, [], ◌∷◌, map, ℕ, ◌+◌, eqb, leb, length, get_or}
use Rattle.lists.specs.Lists.{range, on, first, all, any}
use Rattle.graph.specs.declared.Node.{Node}
use Rattle.graph.specs.Kept.{node_of}
use Rattle.picture.specs.declared.Link.{Link}
use Rattle.picture.specs.declared.Edition.{Edition}
use Rattle.picture.specs.Layout.{edition_of}
use Rattle.picture.specs.Picture.{Picture, picture_of}
use Rattle.picture.specs.Faults.{picture_fault}
use Rattle.network.specs.Words.{slot_count, is_held, held_without, joins}
use Rattle.network.specs.declared.Cost.{Cost}
use Rattle.network.specs.Tests.{served_weight, candidates}
use Rattle.evidence.specs.Layout.{evidence_bytes}
use Rattle.evidence.specs.declared.Head.{Head}
use Rattle.evidence.specs.Contents.{head_in, section_in, first_forest, section_forest}
use Rattle.evidence.specs.Canonical.{no_cost, weighings, least}

-- ---- 14: the rules of a forest

-- the origin, or a slot of depth above 0
unfoldable pub is_in : List Node → ℕ → Bool
is_in xs v = eqb v 0 || not (eqb (node_of xs v).depth 0)

-- depth 0 has parent 0; any other slot is held, and linked from a parent in the forest whose depth is one less
unfoldable pub node_right : (ℕ → ℕ → Bool) → (ℕ → Bool) → List Node → ℕ → Bool
node_right linked held xs v =
    let x : Node = node_of xs v in
    cond (eqb x.depth 0) (eqb x.parent 0)
    (held v && (is_in xs x.parent && (eqb ((node_of xs x.parent).depth + 1) x.depth && linked x.parent v)))

-- no link leaves the forest for a held slot outside it
unfoldable pub link_right : (ℕ → Bool) → List Node → Link → Bool
link_right held xs l = not (is_in xs l.from && (not (is_in xs l.to) && held l.to))

-- every node and every link keeps its rule
unfoldable pub forest_right : Picture → (ℕ → Bool) → List Node → Bool
forest_right p held xs = all (node_right (joins p.links) held xs) (range 1 (slot_count p)) && all (link_right held xs) p.links

-- ---- the faults

-- 13 of the head, for n slots and so many candidates: length, edition, verdict over 1, candidate count
unfoldable pub head_right : Edition → ℕ → List ℕ → ℕ → Bool
head_right e n ev count =
    eqb (length ev) (evidence_bytes e n count)
    && (eqb (head_in ev).edition e.number && (leb (head_in ev).verdict 1 && eqb (head_in ev).count count))

-- 13 of section i: its block is b, and its mark not over 1
unfoldable pub section_right : Edition → ℕ → List ℕ → ℕ → ℕ → Bool
section_right e n ev i b = eqb (section_in e n ev i).block b && leb (section_in e n ev i).mark 1

-- 13 of the sections, for these candidates
unfoldable pub sections_right : Edition → ℕ → List ℕ → List ℕ → Bool
sections_right e n ev cs = all (λ i. section_right e n ev i (get_or cs i 0)) (range 0 (length cs))

-- 13 for a picture's candidates
unfoldable pub form_right : Edition → Picture → List ℕ → Bool
form_right e p ev =
    let cs : List ℕ = candidates p in
    let n : ℕ = slot_count p in
    head_right e n ev (length cs) && sections_right e n ev cs

-- 14 and 15 of section i
unfoldable pub section_fault : Edition → Picture → List ℕ → List Cost → ℕ → ℕ
section_fault e p ev ws i =
    let n : ℕ = slot_count p in
    let w : Cost = get_or ws i no_cost in
    first
    (on (not (forest_right p (held_without p w.block) (section_forest e n ev i))) 14
    ∷ on (not (eqb (section_in e n ev i).loss w.loss && eqb (section_in e n ev i).mark w.mark)) 15
    ∷ [])

-- a weighing is of this block, without a mark, and loses and cuts as much as the choice
unfoldable pub is_named : ℕ → Cost → Cost → Bool
is_named block c w = eqb w.block block && (eqb w.mark 0 && (eqb w.loss c.loss && eqb w.cuts c.cuts))

-- the head states this choice of the weighings. Any admissible candidate will do that loses least and of those cuts fewest
unfoldable pub head_states : Head → List Cost → Option Cost → Bool
head_states h ws None = eqb h.verdict 0 && (eqb h.loss 0 && eqb h.block 0)
head_states h ws (Some c) = eqb h.verdict 1 && (eqb h.loss c.loss && any (is_named h.block c) ws)

-- 16: the verdict, its block and its loss are as the sections imply
unfoldable pub verdict_right : List ℕ → List Cost → Bool
verdict_right ev ws = head_states (head_in ev) ws (least ws)

-- the number of the first fault, or 0 where the evidence passes for the picture
unfoldable pub check_fault : List ℕ → List ℕ → ℕ
check_fault bs ev =
    let e : Edition = edition_of bs in
    let p : Picture = picture_of bs in
    let ws : List Cost = weighings p in
    first
    (picture_fault bs
    ∷ on (not (form_right e p ev)) 13
    ∷ on (not (forest_right p (is_held p) (first_forest e (slot_count p) ev))) 14
    ∷ on (not (eqb (head_in ev).served (served_weight p))) 15
    ∷ first (map (section_fault e p ev ws) (range 0 (length ws)))
    ∷ on (not (verdict_right ev ws)) 16
    ∷ [])
