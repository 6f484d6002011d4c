-- `put_lines` puts the served weight, section by section, and the choice. Assumes nothing.
use Prim.Native.Nat.{◌+◌, ◌≤◌}
use native.Mathlib.Omega.{arith}
use lib.ListN.{length}
use Rattle.picture.specs.Layout.{blocks_max}
use Rattle.evidence.specs.Contents.{head_in}
use Rattle.evidence.proofs.Places.{head_below, section_below}
use Rattle.listing.specs.Text.{Puts}
use Rattle.listing.specs.Listing.{served_line}
use Rattle.listing.proofs.Lines.{served_low, telling_begun, telling_next, telling_ended}
use Rattle.listing.proofs.Text.put_lines.Goals as goal
use Rattle.listing.proofs.Text.put_lines.Goals.{After-put_served_line, At-loop-i}

-- the served weight is the evidence's
served : (c : After-put_served_line) → Puts c.args.self.now (served_line (head_in c.args.ev.now).served) c.put_served_line.new.self
served c = rw c.head_of-head.ensures at c.put_served_line.ensures

-- there are few sections, and after as many lines there is room for one more
room : (c : At-loop-i) → c.loop-i.self.end + 43 ≤ length c.loop-i.self.buf.now
room c =
    let few : c.head_of-head.result.count ≤ blocks_max = rw c.head_of-head.ensures c.requires.1 in
    omega (arith, c.loop-i.invariant.puts.long, served_low c.args.h.edition c.args.h.slots c.args.ev.now (served (goal.at.At-loop-i c).After-put_served_line))

pub put_served_line-requires : goal.put_served_line-requires
put_served_line-requires c = rw c.head_of-head.ensures (omega (arith, head_below c.args.ev.now))

pub loop-i-init : goal.loop-i-init
loop-i-init c = telling_begun _ _ _ _ (omega arith)

pub put_block_line-requires : goal.put_block_line-requires
put_block_line-requires c =
    rw c.section_of.ensures
    (omega (arith, section_below c.args.ev.now c.args.h.edition c.args.h.slots c.loop-i.i, room (goal.at.put_block_line-requires c).At-loop-i))

pub loop-i-preserved : goal.loop-i-preserved
loop-i-preserved c = telling_next _ _ _ _ c.loop-i.invariant (rw c.section_of.ensures at c.put_block_line.ensures)

pub put_choice_line-requires : goal.put_choice_line-requires
put_choice_line-requires c = rw c.head_of-head.ensures (omega (arith, head_below c.args.ev.now, room (goal.at.put_choice_line-requires c).At-loop-i))

pub returns : goal.returns
returns c = telling_ended _ _ _ c.head_of-head.ensures c.put_served_line.ensures c.loop-i.invariant (omega arith) c.put_choice_line.ensures
