-- `put_nodes` writes parent and depth of each slot as one number. Assumes nothing.
use Prim.Native.Nat.{◌+◌, ◌*◌, ◌/◌, ◌≤◌}
use native.Mathlib.Omega.{arith}
use lib.ListN.{length}
use Rattle.picture.proofs.Starts.{few}
use Rattle.choose.proofs.Nodes.{node_room, nodes_begun, nodes_next}
use Rattle.choose.proofs.put_nodes.Given.{Over}
use Rattle.choose.proofs.put_nodes.Goals as goal
use Rattle.choose.proofs.put_nodes.Goals.{In-loop-v}

-- the node at hand has room
room : (g : Over) (c : In-loop-v g) → let size = (g.row.W + g.row.W) / 8 in (c.args.at + c.loop-v.v * size + size ≤ length c.loop-v.buf) × (2 ≤ size) × (size ≤ 3)
room g c = let p = c.requires.fits in node_room _ _ p.limited.known c.requires.width (omega (arith, p.room)) c.loop-v-test.true

pub loop-v-init : goal.loop-v-init
loop-v-init g c = nodes_begun _ _ _ _

pub overflow_shl-above : goal.overflow_shl-above
overflow_shl-above g c = omega (arith, few _ c.requires.fits.limited)

pub overflow_mul-v : goal.overflow_mul-v
overflow_mul-v g c = omega (arith, room g (goal.at.overflow_mul-v g c).In-loop-v)

pub overflow_add-at : goal.overflow_add-at
overflow_add-at g c = omega (arith, room g (goal.at.overflow_add-at g c).In-loop-v)

pub put_bytes-requires : goal.put_bytes-requires
put_bytes-requires g c = room g (goal.at.put_bytes-requires g c).In-loop-v

pub loop-v-preserved : goal.loop-v-preserved
loop-v-preserved g c =
    let p = c.requires.fits in
    let below = c.loop-v-test.true in
    rw (c.put_bytes.ensures, c.from-above.ensures, c.from.ensures)
    (nodes_next _ _ _ _ p.limited.known c.requires.width c.loop-v.invariant (p.parent _ below) (p.depth _ below)
    (room g (goal.at.loop-v-preserved g c).In-loop-v).0)
