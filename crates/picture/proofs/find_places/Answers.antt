-- `find_places` adds up what lies before each part. Assumes nothing.
use mathlib.Core.Path.{sym, ap, ◌∙◌}
use Prim.Native.Nat.{ℕ, ◌+◌, ◌*◌}
use native.Mathlib.Omega.{arith}
use native.Mathlib.Nat.{add-zero}
use Rattle.lists.specs.Lists.{sum}
use Rattle.picture.specs.declared.Places.{Places}
use Rattle.picture.specs.Layout.{slots_at, slot_widths, endpoint_widths, link_widths, service_link_widths, header_widths, endpoints_at, links_at, service_links_at, end_at}
use Rattle.picture.specs.Inner.{places_of}
use Rattle.picture.proofs.Starts.{Few, few}
use Rattle.picture.proofs.find_places.Goals as goal
use Rattle.picture.proofs.find_places.Goals.{After-slots_at}

-- what the sums are made of is small
small : (c : After-slots_at) → Few c.args.h
small c = few _ c.requires

pub slots_at-requires : goal.slots_at-requires
slots_at-requires c = c.requires.known

pub overflow_mul-endpoints : goal.overflow_mul-endpoints
overflow_mul-endpoints c = omega (arith, small (goal.at.overflow_mul-endpoints c).After-slots_at)

pub overflow_add-endpoints : goal.overflow_add-endpoints
unfolding slots_at header_widths sum
overflow_add-endpoints c = omega (arith, small (goal.at.overflow_add-endpoints c).After-slots_at, c.slots_at.ensures)

pub overflow_mul-links : goal.overflow_mul-links
overflow_mul-links c = omega (arith, small (goal.at.overflow_mul-links c).After-slots_at)

pub overflow_add-links : goal.overflow_add-links
unfolding slots_at header_widths sum
overflow_add-links c = omega (arith, small (goal.at.overflow_add-links c).After-slots_at, c.slots_at.ensures)

pub overflow_add-service_links : goal.overflow_add-service_links
overflow_add-service_links c = omega (arith, small (goal.at.overflow_add-service_links c).After-slots_at)

pub overflow_mul-service_links : goal.overflow_mul-service_links
unfolding link_widths sum
overflow_mul-service_links c = omega (arith, small (goal.at.overflow_mul-service_links c).After-slots_at)

pub overflow_add-service_links-2 : goal.overflow_add-service_links-2
unfolding slots_at header_widths link_widths sum
overflow_add-service_links-2 c = omega (arith, small (goal.at.overflow_add-service_links-2 c).After-slots_at, c.slots_at.ensures)

pub overflow_add-end : goal.overflow_add-end
overflow_add-end c = omega (arith, small (goal.at.overflow_add-end c).After-slots_at)

pub overflow_mul-end : goal.overflow_mul-end
unfolding service_link_widths sum
overflow_mul-end c = omega (arith, small (goal.at.overflow_mul-end c).After-slots_at)

pub overflow_add-end-2 : goal.overflow_add-end-2
unfolding slots_at header_widths link_widths service_link_widths sum
overflow_add-end-2 c = omega (arith, small (goal.at.overflow_add-end-2 c).After-slots_at, c.slots_at.ensures)

pub returns : goal.returns
unfolding places_of endpoints_at links_at service_links_at end_at slot_widths endpoint_widths link_widths service_link_widths sum
returns c =
    let h = c.args.h in
    let w = h.edition.location_bits in
    let at : ℕ → ℕ → Places =
    λ s v. let d = s + h.slots * 3 + h.endpoints * 17 in record { endpoints = s + h.slots * 3; links = d; service_links = d + h.links * (w + v); end = d + h.links * (w + v) + h.service_links * (w + 8) } in
    ap (λ (s : ℕ). at s w) c.slots_at.ensures ∙ ap (at (slots_at h.edition)) (sym (add-zero w))
