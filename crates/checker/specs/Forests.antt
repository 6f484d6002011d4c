-- What the functions that follow a forest find. Document 01, "Checking and evicting". Assumes nothing.
use Rattle.std.specs.Prelude.{◌≡◌, Bool, not, ◌&&◌, cond, List, [], ◌∷◌, map, ℕ, zero, suc, ◌+◌, ◌-◌, ◌*◌, ◌^◌, ◌≤◌, ◌<◌, eqb, length, get_or}
use Rattle.lists.specs.Lists.{range, on, first, sum}
use Rattle.rows.specs.declared.Range.{Range}
use Rattle.rows.specs.Ranges.{no_range}
use Rattle.graph.specs.declared.Node.{Node}
use Rattle.picture.specs.declared.Edition.{Edition}
use Rattle.picture.specs.declared.Header.{Header}
use Rattle.picture.specs.Layout.{edition_of}
use Rattle.picture.specs.Picture.{Picture, picture_of}
use Rattle.network.specs.Words.{slot_count, is_held}
use Rattle.network.specs.Tests.{served_weight, weighed, candidates}
use Rattle.network.specs.Rows.{block_range}
use Rattle.evidence.specs.declared.Stated.{Stated}
use Rattle.evidence.specs.Layout.{node_widths, node_bytes}
use Rattle.evidence.specs.Canonical.{weighings}
use Rattle.evidence.specs.Contents.{head_in, section_in, node_at, first_forest}
use Rattle.evidence.specs.Checks.{forest_right, section_fault}

-- evidence has room for a forest from byte `at` on, which is a small number
pub record Room (h : Header) (ev : List ℕ) (at : ℕ) : Type 0 where
  pub small : at < 2 ^ 18
  pub within : at + h.slots * node_bytes h.edition ≤ length ev

-- node v of the forest that starts at bit q
unfoldable pub node_from : Edition → List ℕ → ℕ → ℕ → Node
node_from e ev q v = node_at e ev (q + (v - 1) * sum (node_widths e))

-- ---- the parts of evidence: part 0 is the first forest with the served weight, part i + 1 is section i

-- the slots that are evicted in part k: none in the first forest, those of block b in a section
unfoldable pub evicted_in : ℕ → ℕ → ℕ → Range
evicted_in size b k = cond (eqb k 0) no_range (block_range size b)

-- the weight and the mark that part k states: the served weight, or the loss and the mark of a section
unfoldable pub stated_test : Edition → ℕ → List ℕ → ℕ → ℕ → ℕ → Bool
stated_test e n ev k weight mark =
    let w : Stated = section_in e n ev (k - 1) in
    cond (eqb k 0) (eqb (head_in ev).served weight) (eqb w.loss weight && eqb w.mark mark)

-- 14 and 15 of part k
unfoldable pub part_fault : List ℕ → List ℕ → ℕ → ℕ
part_fault bs ev zero =
    let p : Picture = picture_of bs in
    first (on (not (forest_right p (is_held p) (first_forest (edition_of bs) (slot_count p) ev))) 14 ∷ on (not (eqb (head_in ev).served (served_weight p))) 15 ∷ [])
part_fault bs ev (suc i) = section_fault (edition_of bs) (picture_of bs) ev (weighings (picture_of bs)) i

-- for each candidate, at its place, how many endpoints it cuts
pub record CutsOf (p : Picture) (cuts : List ℕ) : Type 0 where
  pub many : length cuts ≡ length (candidates p)
  pub same : (i : ℕ) → i < length cuts → get_or cuts i 0 ≡ (weighed p (get_or (candidates p) i 0)).cuts

-- the first fault of the parts
unfoldable pub parts_fault : List ℕ → List ℕ → ℕ
parts_fault bs ev = first (map (part_fault bs ev) (range 0 (suc (length (candidates (picture_of bs))))))
