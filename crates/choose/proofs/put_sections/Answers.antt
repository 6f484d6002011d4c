-- `put_sections` writes the sections of the candidates and keeps the best of them. Assumes nothing.
use mathlib.Core.Path.{◌≡◌, sym, ◌∙◌}
use mathlib.Core.List.{List}
use Prim.Native.Nat.{ℕ, ◌<◌}
use native.Mathlib.Omega.{arith}
use Rattle.picture.specs.Picture.{picture_of}
use Rattle.picture.proofs.Facts.{read_known, read_sizes, read_limited}
use Rattle.network.specs.Words.{block_count}
use Rattle.network.specs.Tests.{is_candidate}
use Rattle.network.proofs.Candidates.{marked_candidate}
use Rattle.network.proofs.Blocks.{read_block_size, read_block, read_blocks, read_slots}
use Rattle.choose.specs.Sections.{WeighRows, Room}
use Rattle.choose.proofs.Gathering.{below_hit, below_miss, below_all, below_fewer}
use Rattle.choose.proofs.Gathering.{sections_begun, sections_hit, sections_ended, room_more}
use Rattle.choose.proofs.put_sections.Goals as goal
use Rattle.choose.proofs.put_sections.Goals.{After-is_candidate, In-loop-b, Then-is_candidate, else-is_candidate, then-is_candidate}

-- the block at hand is one of the picture's
below : (c : In-loop-b) → c.loop-b.b < block_count (picture_of c.requires.bytes)
below c = rw (← read_blocks _ _ c.requires.rows.read) c.loop-b-test.true

-- whether it is a candidate
candidate : (c : After-is_candidate) (bs : List ℕ) → WeighRows bs c.args.h c.args.weighing.now → c.is_candidate.result ≡ is_candidate (picture_of bs) c.loop-b.b
candidate c bs r = c.is_candidate.ensures ∙ marked_candidate r.slots (read_block_size _ _ r.read) _

-- a candidate has room for its section
room : (c : Then-is_candidate) → Room c.args.h c.loop-b.q 1 c.loop-b.buf
room c =
    let p = c.requires in
    let fewer =
    below_fewer _ _ (sym (candidate (goal.at.Then-is_candidate c).After-is_candidate _ p.rows) ∙ c.if-is_candidate.true)
    (below (goal.at.Then-is_candidate c).In-loop-b) in
    room_more _ (read_known _ _ p.rows.read) _ (read_slots _ _ p.rows.read) (c.loop-b.invariant _ p.rows) fewer p.room

pub nonzero_div-blocks : goal.nonzero_div-blocks
nonzero_div-blocks c = omega (arith, (read_sizes _ _ c.requires.rows.read).size_some)

pub loop-b-init : goal.loop-b-init
loop-b-init c = λ bs r. sections_begun _ (read_known _ _ r.read) (picture_of bs) (read_slots _ _ r.read) _ _

pub is_candidate-requires : goal.is_candidate-requires
is_candidate-requires c = read_block _ _ c.requires.rows.read _ (below (goal.at.is_candidate-requires c).In-loop-b)

pub add_section-w-requires : goal.add_section-w-requires
add_section-w-requires c =
    let p = c.requires in
    record {
      bytes = p.bytes;
      rows = p.rows;
      block = below (goal.at.add_section-w-requires c).In-loop-b;
      room = room (goal.at.add_section-w-requires c).Then-is_candidate;
    }

pub section_bytes-q-requires : goal.section_bytes-q-requires
section_bytes-q-requires c = read_limited _ _ c.requires.rows.read

pub overflow_add-q : goal.overflow_add-q
overflow_add-q c = omega (arith, c.section_bytes-q.ensures, (room (goal.at.overflow_add-q c).Then-is_candidate).low)

pub loop-b-preserved : goal.loop-b-preserved
loop-b-preserved c =
    λ bs r.
    let l = c.loop-b in
    let p = picture_of bs in
    let n = read_slots _ _ r.read in
    let k = sym (candidate (goal.at.loop-b-preserved c).After-is_candidate bs r) in
    elim c.if-is_candidate.branch [
      | then-is_candidate w ↦ rw (w.buf-is, w.best-is, w.q-is, below_hit p l.b (k ∙ w.if-is_candidate.true))
          (sections_hit _ (read_known _ _ r.read) p n (l.invariant bs r) (w.add_section-w.ensures bs r) w.better-best.ensures w.section_bytes-q.ensures)
      | else-is_candidate w ↦ rw (w.buf-is, w.best-is, w.q-is, below_miss p l.b (k ∙ w.if-is_candidate.false)) (l.invariant bs r)
    ]

pub returns : goal.returns
returns c =
    λ bs r.
    let l = c.loop-b in
    let all : l.b ≡ block_count (picture_of bs) = omega (arith, read_blocks _ _ r.read) in
    sections_ended _ (read_known _ _ r.read) (picture_of bs) (read_slots _ _ r.read) (rw (all, below_all) at (l.invariant bs r))
