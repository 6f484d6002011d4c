-- `nth_service_link` reads a service link of the picture. Assumes nothing.
use mathlib.Core.Path.{sym, ap, ◌∙◌}
use Prim.Native.Nat.{◌+◌, ◌*◌, ◌≤◌}
use native.Mathlib.Omega.{arith}
use native.Mathlib.Nat.{mul-le-mul_right}
use Rattle.lists.specs.Lists.{sum}
use Rattle.picture.specs.declared.Places.{Places}
use Rattle.picture.specs.Layout.{edition2, links_max, service_link_widths}
use Rattle.picture.specs.Inner.{places_of}
use Rattle.picture.specs.Picture.{link_at}
use Rattle.picture.proofs.Starts.{few, ordered, service_row}
use Rattle.picture.proofs.nth_service_link.Goals as goal
use Rattle.picture.proofs.nth_service_link.Goals.{After-find_places}

-- the rows before it take no more than all of them
before : (c : After-find_places) → let a = c.args in a.i * (a.w + 8) ≤ links_max * sum (service_link_widths edition2)
unfolding service_link_widths sum
before c =
    let p = c.requires in
    let h = c.args.h in
    let i : c.args.i ≤ h.service_links = omega (arith, p.2) in
    rw p.1 (omega (arith, (few _ p.0).services, mul-le-mul_right (sum (service_link_widths h.edition)) i))

pub overflow_add-w : goal.overflow_add-w
overflow_add-w c = let p = c.requires in omega (arith, p.1, few _ p.0)

pub overflow_mul-i : goal.overflow_mul-i
unfolding service_link_widths sum
overflow_mul-i c = omega (arith, before (goal.at.overflow_mul-i c).After-find_places)

pub overflow_add-find_places : goal.overflow_add-find_places
unfolding places_of service_link_widths sum
overflow_add-find_places c =
    omega
    (arith, before (goal.at.overflow_add-find_places c).After-find_places, ordered _ c.requires.0, ap (λ (p : Places). p.service_links) c.find_places.ensures)

pub link_at-requires : goal.link_at-requires
link_at-requires c = let p = c.requires in omega (arith, p.1, few _ p.0)

pub returns : goal.returns
unfolding places_of service_link_widths sum
returns c =
    let a = c.args in
    let p = c.requires in
    let w = a.h.edition.location_bits in
    rw p.1 at c.link_at.ensures ∙ ap (λ (p : Places). link_at (service_link_widths a.h.edition) a.s.now (p.service_links + a.i * (w + 8))) c.find_places.ensures
    ∙ sym (service_row a.h a.s.now a.i p.2)
