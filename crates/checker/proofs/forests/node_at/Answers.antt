-- `node_at` reads two adjacent fields as one, from whole bytes. Assumes nothing.
use mathlib.Core.Path.{◌≡◌, ap, ◌∙◌}
use Prim.Native.Nat.{ℕ, ◌+◌, ◌-◌, ◌*◌, ◌/◌, ◌≤◌}
use native.Mathlib.Omega.{arith}
use lib.ListN.{length}
use Rattle.bits.proofs.Masks.{masked}
use Rattle.picture.specs.declared.Link.{Link}
use Rattle.picture.specs.Picture.{link_at}
use Rattle.picture.proofs.Starts.{few, link_halves}
use Rattle.evidence.specs.Layout.{node_widths, node_bytes}
use Rattle.evidence.specs.Contents.{node_at}
use Rattle.evidence.proofs.Places.{node_bytes_lem}
use Rattle.checker.specs.Forests.{node_from}
use Rattle.checker.proofs.Nodes.{node_field, node_room}
use Rattle.checker.proofs.forests.node_at.Goals as goal
use Rattle.checker.proofs.forests.node_at.Goals.{After-node_bits-size}

-- the bytes of a node
size : (c : After-node_bits-size) → c.node_bits-size.result / 8 ≡ node_bytes c.args.h.edition
unfolding node_bytes
size c = ap (λ (x : ℕ). x / 8) c.node_bits-size.ensures

-- there is room for them, and they are two or three
room : (c : After-node_bits-size) → let a = c.args in
    let bytes = c.node_bits-size.result / 8 in (a.at + (a.v - 1) * bytes + bytes ≤ length a.ev.now) × (2 ≤ bytes) × (bytes ≤ 3)
room c = let p = c.requires in let few = node_bytes_lem p.0.known in rw (size c) (node_room p.3 p.1 p.2, few.0, few.1)

pub overflow_mul-v : goal.overflow_mul-v
overflow_mul-v c = omega (arith, room (goal.at.overflow_mul-v c).After-node_bits-size)

pub overflow_add-at : goal.overflow_add-at
overflow_add-at c = omega (arith, room (goal.at.overflow_add-at c).After-node_bits-size)

pub bytes-both-requires : goal.bytes-both-requires
bytes-both-requires c = room (goal.at.bytes-both-requires c).After-node_bits-size

pub overflow_shr-result : goal.overflow_shr-result
overflow_shr-result c = omega (arith, (few _ c.requires.0).bits)

pub returns : goal.returns
unfolding node_from node_at node_widths link_at
returns c =
    let a = c.args in
    let w = a.h.edition.location_bits in
    let both = rw (size (goal.at.returns c).After-node_bits-size) at c.bytes-both.ensures ∙ node_field c.requires.0.known a.ev.now a.at a.v in
    let e = link_halves a.ev.now w w _ both in
    let d = masked c.bytes-both.result w (omega (arith, (few _ c.requires.0).bits)) ∙ ap (λ (l : Link). l.to) e in
    λ j. record { parent = (e j).from; depth = d j }
