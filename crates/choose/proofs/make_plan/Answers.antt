-- `make_plan` tells what is known of an accepted picture before its evidence is written. Assumes nothing.
use mathlib.Core.Path.{◌≡◌, sym, ap, ◌∙◌}
use native.Mathlib.Omega.{arith}
use native.Mathlib.Nat.{div-mul-le_self}
use lib.ListN.{length}
use Rattle.picture.specs.Picture.{picture_of}
use Rattle.picture.proofs.Facts.{read_edition, read_sizes, read_limited, read_slots_most}
use Rattle.network.specs.Tests.{candidates}
use Rattle.network.proofs.Candidates.{marked_candidates}
use Rattle.network.proofs.Blocks.{read_block_size, read_blocks, read_slots}
use Rattle.evidence.specs.Calls.{length_for}
use Rattle.evidence.proofs.Fields.{candidates_few}
use Rattle.choose.proofs.make_plan.Goals as goal
use Rattle.choose.proofs.make_plan.Goals.{After-count_candidates-count}

counted : (c : After-count_candidates-count) → c.count_candidates-count.result ≡ length (candidates (picture_of c.args.p.now))
counted c =
    let r = c.header-h.ensures in
    let slots = c.slot_rows-slots.ensures in
    c.count_candidates-count.ensures ∙ ap length (marked_candidates slots (read_block_size _ _ r) (sym (read_blocks _ _ r)))

pub nonzero_div-n : goal.nonzero_div-n
nonzero_div-n c = omega (arith, (read_sizes _ _ c.header-h.ensures).size_some)

pub count_candidates-count-requires : goal.count_candidates-count-requires
count_candidates-count-requires c =
    let h = c.header-h.result in
    omega (arith, read_slots_most _ _ c.header-h.ensures, div-mul-le_self h.slots h.block_size)

pub evidence_bytes-length-requires : goal.evidence_bytes-length-requires
evidence_bytes-length-requires c =
    let r = c.header-h.ensures in
    (read_limited _ _ r, omega (arith, counted (goal.at.evidence_bytes-length-requires c).After-count_candidates-count, candidates_few _ r.accepted))

pub returns : goal.returns
unfolding length_for
returns c =
    let r = c.header-h.ensures in
    let count = counted (goal.at.returns c).After-count_candidates-count in
    record {
      slots = c.slot_rows-slots.ensures;
      counted = count;
      long = rw (c.evidence_bytes-length.ensures, ← read_slots _ _ r, ← read_edition _ _ r, count);
    }
