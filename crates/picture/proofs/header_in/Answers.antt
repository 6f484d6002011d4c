-- `header_in` reads the header's numbers by an edition. Assumes nothing.
use mathlib.Core.Path.{◌≡◌, sym, ap, ◌∙◌}
use mathlib.Core.List.{List}
use Prim.Native.Nat.{ℕ}
use native.Mathlib.Omega.{arith}
use native.Mathlib.Nat.{zero-add}
use lib.ListN.{get_or, take}
use Rattle.bits.specs.Bits.{field_at}
use Rattle.lists.specs.Lists.{sum}
use Rattle.picture.specs.Layout.{header_widths, field_in}
use Rattle.picture.specs.Picture.{header_in}
use Rattle.picture.proofs.Editions.{Widths, widths}
use Rattle.picture.proofs.header_in.Goals as goal
use Rattle.picture.proofs.header_in.Goals.{After-endpoint_count_at-at}

-- what was read at a place is the field that stands there
found : (bs ws : List ℕ) (k p : ℕ) {v : ℕ} → v ≡ field_at bs p (get_or ws k 0) → p ≡ sum (take k ws) → v ≡ field_in bs ws 0 k
unfolding field_in
found bs ws k p f e = f ∙ ap (λ (q : ℕ). field_at bs q (get_or ws k 0)) (e ∙ sym (zero-add _))

-- the width of a location is small
small : (c : After-endpoint_count_at-at) → Widths c.args.e
small c = widths c.requires

pub endpoint_count_at-at-requires : goal.endpoint_count_at-at-requires
endpoint_count_at-at-requires c = c.requires

pub field-requires-2 : goal.field-requires-2
field-requires-2 c = omega (arith, small (goal.at.field-requires-2 c).After-endpoint_count_at-at)

pub overflow_add-w : goal.overflow_add-w
overflow_add-w c = omega (arith, small (goal.at.overflow_add-w c).After-endpoint_count_at-at)

pub field-requires-3 : goal.field-requires-3
field-requires-3 c = omega (arith, small (goal.at.field-requires-3 c).After-endpoint_count_at-at)

pub overflow_add-at : goal.overflow_add-at
unfolding header_widths sum
overflow_add-at c = omega (arith, small (goal.at.overflow_add-at c).After-endpoint_count_at-at, c.endpoint_count_at-at.ensures)

pub overflow_add-at-2 : goal.overflow_add-at-2
unfolding header_widths sum
overflow_add-at-2 c = omega (arith, small (goal.at.overflow_add-at-2 c).After-endpoint_count_at-at, c.endpoint_count_at-at.ensures)

pub returns : goal.returns
unfolding header_in header_widths sum
returns c =
    let at = c.endpoint_count_at-at.ensures in
    let a = c.args in
    let bs = a.s.now in
    let ws = header_widths a.e in
    let size = found bs ws 1 _ c.field.ensures (omega arith) in
    let slots = found bs ws 2 _ c.field-2.ensures (omega arith) in
    let near = found bs ws 3 _ c.field-3.ensures (omega arith) in
    let ends = found bs ws 4 _ c.field-4.ensures (omega (arith, at)) in
    let links = found bs ws 5 _ c.field-5.ensures (omega (arith, at)) in
    let services = found bs ws 6 _ c.field-6.ensures (omega (arith, at)) in
    λ i. record { edition = a.e; block_size = size i; slots = slots i; near_limit = near i; endpoints = ends i; links = links i; service_links = services i }
