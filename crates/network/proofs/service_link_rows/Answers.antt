-- `service_link_rows` marks every service link, in the row of its endpoint. Assumes nothing.
use mathlib.Core.Path.{refl}
use native.Mathlib.Omega.{arith}
use Prim.Native.Nat.{◌<◌}
use lib.ListN.{length}
use Rattle.picture.specs.Picture.{picture_of}
use Rattle.picture.proofs.Facts.{read_picture, read_limited, read_services, read_services_length, read_slots_most}
use Rattle.network.specs.Words.{joins}
use Rattle.network.proofs.Making.{leads, linking_begun, linking_next, linking_ended, link_marked}
use Rattle.network.proofs.service_link_rows.Goals as goal

pub loop-i-init : goal.loop-i-init
loop-i-init c = linking_begun _ (λ c a. leads a c) (picture_of c.args.p.now).service_links _ c.requires

pub nth_service_link-l-requires : goal.nth_service_link-l-requires
nth_service_link-l-requires c = (read_limited _ _ c.header-h.ensures, refl, omega arith)

pub mark-requires : goal.mark-requires
mark-requires c =
    let i = c.loop-i.i in
    let r = c.header-h.ensures in
    let k = read_services _ _ r in
    let below : i < length (picture_of c.args.p.now).service_links = omega (arith, read_services_length _ _ r) in
    rw (c.nth_service_link-l.ensures, c.bytes-s.ensures, read_picture _ _ r) (
      omega (arith, c.loop-i.invariant.many, (read_limited _ _ r).counts.endpoints_most, k.endpoint_most i below),
      omega (arith, read_slots_most _ _ r, k.location i below),
    )

pub loop-i-preserved : goal.loop-i-preserved
loop-i-preserved c =
    let r = c.header-h.ensures in
    linking_next _ (λ c a. leads a c) _ _ _ c.loop-i.i _ _ c.loop-i.invariant (omega (arith, read_services_length _ _ r))
    (link_marked _ _ (rw (c.bytes-s.ensures, read_picture _ _ r) at c.nth_service_link-l.ensures)) c.mark.ensures

pub returns : goal.returns
unfolding joins
returns c = linking_ended _ (λ c a. leads a c) _ _ c.loop-i.i c.loop-i.invariant (omega (arith, read_services_length _ _ c.header-h.ensures))
