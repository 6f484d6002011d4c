-- `link_rows` marks every link. Assumes nothing.
use mathlib.Core.Path.{refl}
use native.Mathlib.Omega.{arith}
use Prim.Native.Nat.{◌<◌}
use lib.ListN.{length}
use Rattle.picture.specs.Picture.{picture_of}
use Rattle.picture.proofs.Facts.{read_limited, read_picture, read_links, read_links_length, read_slots_most}
use Rattle.network.specs.Words.{joins}
use Rattle.network.proofs.Making.{leads, linking_begun, linking_next, linking_ended, link_marks}
use Rattle.network.proofs.link_rows.Goals as goal

pub loop-i-init : goal.loop-i-init
loop-i-init c = linking_begun _ leads (picture_of c.args.p.now).links _ c.requires

pub nth_link-l-requires : goal.nth_link-l-requires
nth_link-l-requires c = (read_limited _ _ c.header-h.ensures, refl, omega arith)

pub mark-requires : goal.mark-requires
mark-requires c =
    let i = c.loop-i.i in
    let r = c.header-h.ensures in
    let k = read_links _ _ r in
    let below : i < length (picture_of c.args.p.now).links = omega (arith, read_links_length _ _ r) in
    rw (c.nth_link-l.ensures, c.bytes-s.ensures, read_picture _ _ r)
    (omega (arith, c.loop-i.invariant.many, read_slots_most _ _ r, k.from i below), omega (arith, read_slots_most _ _ r, k.to i below))

pub loop-i-preserved : goal.loop-i-preserved
loop-i-preserved c =
    let r = c.header-h.ensures in
    linking_next _ leads _ _ _ c.loop-i.i _ _ c.loop-i.invariant (omega (arith, read_links_length _ _ r))
    (link_marks _ _ (rw (c.bytes-s.ensures, read_picture _ _ r) at c.nth_link-l.ensures)) c.mark.ensures

pub returns : goal.returns
unfolding joins
returns c = linking_ended _ leads _ _ c.loop-i.i c.loop-i.invariant (omega (arith, read_links_length _ _ c.header-h.ensures))
