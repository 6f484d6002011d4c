-- `put_generated` writes the header, the four lists that draws fill, and the fill. Assumes nothing.
use mathlib.Core.Path.{◌≡◌, refl}
use Prim.Native.Nat.{◌+◌, ◌*◌}
use native.Mathlib.Omega.{arith}
use native.Mathlib.Nat.{zero-add}
use lib.Dec.{lit≤}
use borrow.Author.Rules.{rules}
use Rattle.picture.specs.Layout.{slots_at, endpoints_at, links_at, service_links_at, end_at}
use Rattle.picture.proofs.Starts.{ordered}
use Rattle.write.proofs.Making.{Makes, header_room, fill_room, header_place, slots_place, endpoints_place, links_place, services_place, picture_made}
use Rattle.write.specs.Fields.{slot_fields, endpoint_fields}
use Rattle.draws.proofs.States.{state_begun}
use Rattle.generator.specs.Generated.{generated, drawn_slot, drawn_endpoint, drawn_link, drawn_service_link}
use Rattle.generator.specs.Answers.{generated_picture}
use Rattle.generator.specs.Inner.{Ready}
use Rattle.generator.proofs.Lists.{slot_row, endpoint_row}
use Rattle.generator.proofs.Parts.{ready_limited, ready_makes, ready_header, Stage, stage_fits, stage_follows, stage_next, slots_to, endpoints_to}
use Rattle.generator.proofs.Parts.{links_to, services_to, links_row, services_row, location_roomy, endpoint_roomy}
use Rattle.generator.proofs.put_generated.Goals as goal
use Rattle.generator.proofs.put_generated.Goals.{After-push_header, After-push_rows-end, After-push_rows-endpoints, After-push_rows-links}
use Rattle.generator.proofs.put_generated.Goals.{After-push_rows-slots, Start}

ready : (c : Start) → Ready c.args.h c.args.buf.now
ready c = c.requires

makes : (c : Start) → let a = c.args in Makes a.h (generated a.seed a.h) a.buf.now
makes c = ready_makes (ready c) c.args.seed

header : (c : After-push_header) → let a = c.args in Stage a.seed 0 (slots_at a.h.edition) (record { tail = c.push_header.result; state = a.seed })
header c =
    let place = header_place (makes (goal.at.After-push_header c).Start) c.push_header.ensures in
    record { at = place; state = state_begun c.args.seed (omega (arith, c.ranges.seed)) }

slots : (c : After-push_rows-slots) → let a = c.args in Stage a.seed (a.h.slots * 2) (endpoints_at a.h) c.push_rows-slots.result
unfolding generated
slots c =
    let at = goal.at.After-push_rows-slots c in
    let s = header at.After-push_header in
    let d = c.push_rows-slots.ensures in
    stage_next s d (zero-add _) (slots_place (makes at.Start) s.at (stage_follows s d slot_fields drawn_slot slot_row))

endpoints : (c : After-push_rows-endpoints) → let h = c.args.h in
    Stage c.args.seed (h.slots * 2 + h.endpoints * 2) (links_at h) c.push_rows-endpoints.result
unfolding generated
endpoints c =
    let at = goal.at.After-push_rows-endpoints c in
    let s = slots at.After-push_rows-slots in
    let d = c.push_rows-endpoints.ensures in
    stage_next s d refl (endpoints_place (makes at.Start) s.at (stage_follows s d endpoint_fields drawn_endpoint endpoint_row))

links : (c : After-push_rows-links) → let h = c.args.h in
    Stage c.args.seed (h.slots * 2 + h.endpoints * 2 + h.links * 2) (service_links_at h) c.push_rows-links.result
unfolding generated
links c =
    let at = goal.at.After-push_rows-links c in
    let s = endpoints at.After-push_rows-endpoints in
    let d = c.push_rows-links.ensures in
    stage_next s d refl (links_place (makes at.Start) s.at (stage_follows s d _ (drawn_link c.args.h.slots) (links_row (ready at.Start))))

services : (c : After-push_rows-end) → c.push_rows-end.result.tail.at ≡ end_at c.args.h
unfolding generated
services c =
    let at = goal.at.After-push_rows-end c in
    let s = links at.After-push_rows-links in
    let h = c.args.h in
    let rows = stage_follows s c.push_rows-end.ensures _ (drawn_service_link h.slots h.endpoints) (services_row (ready at.Start)) in
    services_place (makes at.Start) s.at rows

pub overflow_add-location : goal.overflow_add-location
overflow_add-location c = record { fits = omega (arith, (location_roomy c.requires).most) }

pub push_header-requires : goal.push_header-requires
push_header-requires c =
    let r = c.requires in
    header_room (ready_makes r c.args.seed) refl (ready_header r c.args.seed) (omega (arith, slots_to r, ordered c.args.h (ready_limited r)))

pub push_rows-slots-requires : goal.push_rows-slots-requires
push_rows-slots-requires c =
    let at = goal.at.push_rows-slots-requires c in
    let r = ready at.Start in
    stage_fits (header at.After-push_header) r (omega arith) (lit≤ tt) (λ _. record { some = lit≤ tt; most = lit≤ tt })
    (λ _. record { some = lit≤ tt; most = lit≤ tt }) (omega (arith, slots_to r, ordered _ (ready_limited r)))

pub push_rows-endpoints-requires : goal.push_rows-endpoints-requires
push_rows-endpoints-requires c =
    let at = goal.at.push_rows-endpoints-requires c in
    let r = ready at.Start in
    stage_fits (slots at.After-push_rows-slots) r (omega arith) (lit≤ tt) (λ _. record { some = lit≤ tt; most = lit≤ tt })
    (λ _. record { some = lit≤ tt; most = lit≤ tt }) (omega (arith, endpoints_to r, ordered _ (ready_limited r)))

pub push_rows-links-requires : goal.push_rows-links-requires
push_rows-links-requires c =
    let at = goal.at.push_rows-links-requires c in
    let r = ready at.Start in
    stage_fits (endpoints at.After-push_rows-endpoints) r (omega arith) (lit≤ tt) (λ _. location_roomy r) (λ _. location_roomy r)
    (omega (arith, links_to r, ordered _ (ready_limited r)))

pub push_rows-end-requires : goal.push_rows-end-requires
push_rows-end-requires c =
    let at = goal.at.push_rows-end-requires c in
    let r = ready at.Start in
    stage_fits (links at.After-push_rows-links) r (omega arith) (lit≤ tt) (λ _. location_roomy r) (endpoint_roomy r) (omega (arith, services_to r))

pub push_fill-requires : goal.push_fill-requires
push_fill-requires c =
    let at = goal.at.push_fill-requires c in
    fill_room (makes at.Start) (omega arith) (services at.After-push_rows-end)

pub returns : goal.returns
unfolding generated_picture generated
returns c =
    let at = goal.at.returns c in
    let r = ready at.Start in
    picture_made (makes at.Start) c.push_header.ensures (stage_follows (header at.After-push_header) c.push_rows-slots.ensures _ _ slot_row)
    (stage_follows (slots at.After-push_rows-slots) c.push_rows-endpoints.ensures _ _ endpoint_row)
    (stage_follows (endpoints at.After-push_rows-endpoints) c.push_rows-links.ensures _ _ (links_row r))
    (stage_follows (links at.After-push_rows-links) c.push_rows-end.ensures _ _ (services_row r))
    c.push_fill.ensures (search rules) (λ j. omega (arith, c.type_inv.buf j))
