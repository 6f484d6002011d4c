-- `endpoint_feeders` takes together what the service links tell. Assumes nothing.
use mathlib.Core.Path.{◌≡◌, refl, ap₂, ◌∙◌}
use native.Mathlib.Omega.{arith}
use Prim.Native.Nat.{◌-◌, ◌≤◌, ◌<◌}
use lib.ListN.{length, get_or}
use Rattle.std.proofs.lemmas.List.{get_or_default}
use Rattle.rows.specs.Rows.{locations_max}
use Rattle.picture.specs.Layout.{endpoints_max}
use Rattle.picture.specs.Picture.{picture_of}
use Rattle.picture.specs.Rules.{no_link}
use Rattle.picture.proofs.Facts.{read_limited, read_picture, read_services, read_services_length, read_slots_most}
use Rattle.price.specs.Inner.{no_feeder, joint}
use Rattle.price.proofs.Endpoints.{telling_begun, telling_next, telling_ended}
use Rattle.price.proofs.endpoint_feeders.Goals as goal
use Rattle.price.proofs.endpoint_feeders.Goals.{After-nth_service_link-l}

-- the service link at hand is the picture's
link : (c : After-nth_service_link-l) → c.nth_service_link-l.result ≡ get_or (picture_of c.args.p.now).service_links (c.loop-i.i - 1) no_link
link c = rw (c.bytes-s.ensures, read_picture _ _ c.header-h.ensures) at c.nth_service_link-l.ensures

pub loop-i-init : goal.loop-i-init
loop-i-init c = telling_begun _ _ _ (omega (arith, read_services_length _ _ c.header-h.ensures))

pub nth_service_link-l-requires : goal.nth_service_link-l-requires
nth_service_link-l-requires c = (read_limited _ _ c.header-h.ensures, refl, omega arith)

-- whose ends are a location and an endpoint that are there
location : (c : After-nth_service_link-l) → c.nth_service_link-l.result.from < locations_max
location c =
    let r = c.header-h.ensures in
    let below : c.loop-i.i - 1 < length (picture_of c.args.p.now).service_links = omega (arith, read_services_length _ _ r) in
    rw (link c) (omega (arith, read_slots_most _ _ r, (read_services _ _ r).location (c.loop-i.i - 1) below))

endpoint : (c : After-nth_service_link-l) → c.nth_service_link-l.result.to ≤ endpoints_max
endpoint c =
    let r = c.header-h.ensures in
    let below : c.loop-i.i - 1 < length (picture_of c.args.p.now).service_links = omega (arith, read_services_length _ _ r) in
    rw (link c) (omega (arith, (read_limited _ _ r).counts.endpoints_most, (read_services _ _ r).endpoint_most (c.loop-i.i - 1) below))

pub bounds-locations-l : goal.bounds-locations-l
bounds-locations-l c = location (goal.at.bounds-locations-l c).After-nth_service_link-l

pub bounds-feeders-l : goal.bounds-feeders-l
bounds-feeders-l c = omega (arith, endpoint (goal.at.bounds-feeders-l c).After-nth_service_link-l)

pub bounds-feeders-l-in-loop-i : goal.bounds-feeders-l-in-loop-i
bounds-feeders-l-in-loop-i c = omega (arith, endpoint (goal.at.bounds-feeders-l-in-loop-i c).After-nth_service_link-l)

pub loop-i-preserved : goal.loop-i-preserved
loop-i-preserved c =
    let w = (goal.at.loop-i-preserved c).After-nth_service_link-l in
    let l = c.loop-i in
    let from = get_or_default _ c.nth_service_link-l.result.from 0 no_feeder (omega (arith, location w, c.requires.many)) in
    let to = get_or_default _ c.nth_service_link-l.result.to 0 no_feeder (omega (arith, endpoint w, l.invariant.many)) in
    telling_next _ _ l.feeders l.i (omega arith) (omega (arith, read_services_length _ _ c.header-h.ensures)) l.invariant (link w) (endpoint w)
    (c.joint.ensures ∙ ap₂ joint (from ∙ c.requires.same _) to)

pub returns : goal.returns
returns c = telling_ended _ _ _ (omega arith) c.loop-i.invariant
