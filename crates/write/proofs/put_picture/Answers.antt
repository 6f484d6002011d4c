-- `put_picture` writes the header, the four lists and the fill. Assumes nothing.
use mathlib.Core.Path.{◌≡◌, refl}
use native.Mathlib.Omega.{arith}
use borrow.Author.Rules.{rules}
use Rattle.picture.specs.Layout.{link_widths, service_link_widths, slots_at, endpoints_at, links_at, service_links_at, end_at}
use Rattle.write.specs.Columns.{handed, picture_from}
use Rattle.write.specs.Inner.{under, Ready}
use Rattle.write.proofs.Making.{Makes, fill_room, header_place, slots_place, endpoints_place, links_place, services_place, picture_made}
use Rattle.write.proofs.Putting.{ready_makes, ready_written, header_ready, slots_ready, endpoints_ready, links_ready, services_ready}
use Rattle.write.proofs.put_picture.Goals as goal
use Rattle.write.proofs.put_picture.Goals.{After-push_endpoints-endpoints, After-push_header-header, After-push_links-end, After-push_links-links}
use Rattle.write.proofs.put_picture.Goals.{After-push_slots-slots, Start}

ready : (c : Start) → let a = c.args in Ready (under a.h a.columns) a.h a.buf.now
ready c = c.requires

makes : (c : Start) → let a = c.args in Makes a.h (picture_from (under a.h a.columns)) a.buf.now
makes c = ready_makes c.requires

-- where each part ends
header : (c : After-push_header-header) → c.push_header-header.result.at ≡ slots_at c.args.h.edition
header c = let at = goal.at.After-push_header-header c in header_place (makes at.Start) c.push_header-header.ensures

slots : (c : After-push_slots-slots) → c.push_slots-slots.result.at ≡ endpoints_at c.args.h
unfolding under handed picture_from
slots c = let at = goal.at.After-push_slots-slots c in slots_place (makes at.Start) (header at.After-push_header-header) c.push_slots-slots.ensures

endpoints : (c : After-push_endpoints-endpoints) → c.push_endpoints-endpoints.result.at ≡ links_at c.args.h
unfolding under handed picture_from
endpoints c =
    let at = goal.at.After-push_endpoints-endpoints c in
    endpoints_place (makes at.Start) (slots at.After-push_slots-slots) c.push_endpoints-endpoints.ensures

links : (c : After-push_links-links) → c.push_links-links.result.at ≡ service_links_at c.args.h
unfolding under handed picture_from link_widths
links c =
    let at = goal.at.After-push_links-links c in
    links_place (makes at.Start) (endpoints at.After-push_endpoints-endpoints) c.push_links-links.ensures

services : (c : After-push_links-end) → c.push_links-end.result.at ≡ end_at c.args.h
unfolding under handed picture_from service_link_widths
services c = let at = goal.at.After-push_links-end c in services_place (makes at.Start) (links at.After-push_links-links) c.push_links-end.ensures

pub push_header-header-requires : goal.push_header-header-requires
push_header-header-requires c = header_ready c.requires refl

pub push_slots-slots-requires : goal.push_slots-slots-requires
unfolding under handed
push_slots-slots-requires c =
    let at = goal.at.push_slots-slots-requires c in
    slots_ready (ready at.Start) (omega arith) (header at.After-push_header-header)

pub push_endpoints-endpoints-requires : goal.push_endpoints-endpoints-requires
unfolding under handed
push_endpoints-endpoints-requires c =
    let at = goal.at.push_endpoints-endpoints-requires c in
    endpoints_ready (ready at.Start) (omega arith) (slots at.After-push_slots-slots)

pub push_links-links-requires : goal.push_links-links-requires
unfolding under handed
push_links-links-requires c =
    let at = goal.at.push_links-links-requires c in
    links_ready (ready at.Start) (omega arith) (endpoints at.After-push_endpoints-endpoints)

pub push_links-end-requires : goal.push_links-end-requires
unfolding under handed
push_links-end-requires c =
    let at = goal.at.push_links-end-requires c in
    services_ready (ready at.Start) (omega arith) (links at.After-push_links-links)

pub push_fill-requires : goal.push_fill-requires
push_fill-requires c =
    let at = goal.at.push_fill-requires c in
    fill_room (makes at.Start) (omega arith) (services at.After-push_links-end)

pub returns : goal.returns
unfolding under handed picture_from link_widths service_link_widths
returns c =
    let s = (goal.at.returns c).Start in
    ready_written (ready s)
    (picture_made (makes s) c.push_header-header.ensures c.push_slots-slots.ensures c.push_endpoints-endpoints.ensures c.push_links-links.ensures
    c.push_links-end.ensures c.push_fill.ensures (search rules) (λ j. omega (arith, c.type_inv.buf j)))
