-- What choose, check and show do with their buffers, on every input. Assumes nothing.
use Rattle.std.specs.Prelude.{◌&&◌, cond, List, [], ◌∷◌, ◌++◌, ◌≡◌, ℕ, ◌+◌, ◌*◌, ◌/◌, eqb, ltb, length, take, drop}
use Rattle.bits.specs.Bits.{field_at}
use Rattle.lists.specs.Lists.{on, first, place}
use Rattle.picture.specs.declared.Edition.{Edition}
use Rattle.picture.specs.Layout.{edition_of}
use Rattle.picture.specs.Picture.{Picture, picture_of}
use Rattle.picture.specs.Faults.{picture_fault}
use Rattle.network.specs.Words.{slot_count}
use Rattle.network.specs.Tests.{candidates}
use Rattle.evidence.specs.declared.Part.{Part}
use Rattle.evidence.specs.Layout.{node_bytes, section_at, section_bytes, evidence_bytes}
use Rattle.evidence.specs.Canonical.{evidence_of}
use Rattle.evidence.specs.Contents.{head_in}
use Rattle.evidence.specs.Checks.{check_fault}

-- the length of a picture's evidence
unfoldable pub length_for : List ℕ → ℕ
length_for bs = evidence_bytes (edition_of bs) (slot_count (picture_of bs)) (length (candidates (picture_of bs)))

-- choose: the picture's fault, then 9 where the buffer is under the evidence's length
unfoldable pub choose_fault : List ℕ → List ℕ → ℕ
choose_fault bs buf = first (picture_fault bs ∷ on (ltb (length buf) (length_for bs)) 9 ∷ [])

-- the buffer at exit: the evidence in its first bytes and the rest as it was; after a refusal all as it was
unfoldable pub chosen_bytes : List ℕ → List ℕ → List ℕ
chosen_bytes bs buf =
    let written : List ℕ = evidence_of bs ++ drop (length_for bs) buf in
    cond (eqb (choose_fault bs buf) 0) written buf

-- show: where the chosen candidate's section starts and how long it is, in bytes; the empty part at the start of the evidence where the
-- check fails or the verdict is none
unfoldable pub shown_part : List ℕ → List ℕ → Part
shown_part bs ev =
    let e : Edition = edition_of bs in
    let p : Picture = picture_of bs in
    let i : ℕ = place (λ c. eqb c (head_in ev).block) (candidates p) in
    let section : Part = record { start = section_at e (slot_count p) i / 8; size = section_bytes e (slot_count p) } in
    cond (eqb (check_fault bs ev) 0 && eqb (head_in ev).verdict 1) section (record { start = 0; size = 0 })

-- and that part of the evidence
unfoldable pub shown : List ℕ → List ℕ → List ℕ
shown bs ev = take (shown_part bs ev).size (drop (shown_part bs ev).start ev)

-- a section: as many bytes as one has for n slots, the first of which is the block's
pub record SectionOf (e : Edition) (n block : ℕ) (part : List ℕ) : Type 0 where
  pub size : length part ≡ 5 + n * node_bytes e
  pub begins : field_at part 0 8 ≡ block
