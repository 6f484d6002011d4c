-- What is planned, the candidates' sections and the choice among them, by the rows of an accepted picture. Assumes nothing.
use Rattle.std.specs.Prelude.{Option, List, map, ◌≡◌, ℕ, ◌+◌, ◌*◌, ◌≤◌, ◌<◌, length}
use Rattle.lists.specs.Lists.{flat}
use Rattle.packing.specs.Holding.{Put}
use Rattle.rows.specs.Rows.{marked, words_for, Narrow}
use Rattle.graph.specs.Steps.{Walked}
use Rattle.picture.specs.declared.Edition.{Edition}
use Rattle.picture.specs.declared.Header.{Header}
use Rattle.picture.specs.Picture.{Picture, picture_of}
use Rattle.picture.specs.Inner.{Read}
use Rattle.network.specs.declared.Cost.{Cost}
use Rattle.network.specs.declared.SlotRows.{SlotRows}
use Rattle.network.specs.Words.{block_count, is_held, joins}
use Rattle.network.specs.Tests.{weighed, candidates}
use Rattle.network.specs.Rows.{SlotRowsOf, TablesOf}
use Rattle.weigh.specs.declared.Lost.{Lost}
use Rattle.weigh.specs.Sums.{LostBetween}
use Rattle.evidence.specs.Layout.{section_bytes, evidence_max}
use Rattle.evidence.specs.Canonical.{weighings, least, section_fields}
use Rattle.evidence.specs.Calls.{length_for}
use Rattle.choose.specs.declared.Weighing.{Weighing}

-- ---- before anything is written

-- what is known of an accepted picture: the rows of its slots, the number of its candidates, and the evidence's length
pub record Planned (bs : List ℕ) (rows : SlotRows) (count size : ℕ) : Type 0 where
  pub slots : SlotRowsOf (picture_of bs) rows.held rows.near
  pub counted : count ≡ length (candidates (picture_of bs))
  pub long : size ≡ length_for bs

-- ---- the sections

-- the rows are those of an accepted picture and of what is reached now
pub record WeighRows (bs : List ℕ) (h : Header) (t : Weighing) : Type 0 where
  pub read : Read bs h
  pub tables : TablesOf (picture_of bs) t.tables.now
  pub slots : SlotRowsOf (picture_of bs) t.slots.now.held t.slots.now.near
  pub parents : List ℕ
  pub depths : List ℕ
  pub now : Walked (joins (picture_of bs).links) (is_held (picture_of bs)) (marked t.reached.now) parents depths
  pub narrow : Narrow (words_for h.slots) t.reached.now

-- what is served by the tables and not by a row of what is still reached
abbrev pub LostNow : Header → Weighing → List ℕ → Lost → Type 0
LostNow h t still lost = LostBetween t.tables.now.services t.tables.now.weights t.tables.now.protected h.endpoints t.reached.now still lost

-- there is room for c sections from byte q on; the bound keeps a bit's place in the numbers of the code
pub record Room (h : Header) (q c : ℕ) (bs : List ℕ) : Type 0 where
  pub fits : q + c * section_bytes h.edition h.slots ≤ length bs
  pub low : q + c * section_bytes h.edition h.slots ≤ evidence_max

-- what a section needs: the rows of some picture, a block, and room
pub record SectionReady (h : Header) (t : Weighing) (b q : ℕ) (buf : List ℕ) : Type 0 where
  pub bytes : List ℕ
  pub rows : WeighRows bytes h t
  pub block : b < block_count (picture_of bytes)
  pub room : Room h q 1 buf

-- the section of block b stands from byte q on, and its cost is told
pub record SectionDone (e : Edition) (p : Picture) (b q : ℕ) (buf buf' : List ℕ) (w : Cost) : Type 0 where
  pub put : Put buf (q * 8) (section_fields e p (weighed p b)) buf'
  pub cost : w ≡ weighed p b

-- what the sections need: the rows of some picture, and room for those of all candidates
pub record SectionsReady (h : Header) (t : Weighing) (at : ℕ) (buf : List ℕ) : Type 0 where
  pub bytes : List ℕ
  pub rows : WeighRows bytes h t
  pub room : Room h at (length (candidates (picture_of bytes))) buf

-- the sections of all candidates stand from byte `at` on, and the choice is the picture's
pub record Sectioned (e : Edition) (p : Picture) (at : ℕ) (buf buf' : List ℕ) (best : Option Cost) : Type 0 where
  pub put : Put buf (at * 8) (flat (map (section_fields e p) (weighings p))) buf'
  pub choice : best ≡ least (weighings p)

-- ---- the evidence

-- what writing the evidence needs: what was planned, and room
pub record EvidenceReady (bs : List ℕ) (rows : SlotRows) (count size : ℕ) (buf : List ℕ) : Type 0 where
  pub planned : Planned bs rows count size
  pub room : size ≤ length buf
