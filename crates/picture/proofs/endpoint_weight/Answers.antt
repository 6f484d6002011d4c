-- `endpoint_weight` reads an endpoint's weight. Assumes nothing.
use mathlib.Core.Path.{sym, ap, ◌∙◌}
use Prim.Native.Nat.{◌+◌, ◌-◌, ◌*◌}
use native.Mathlib.Omega.{arith}
use Rattle.bits.specs.Bits.{field_at}
use Rattle.lists.specs.Lists.{sum}
use Rattle.picture.specs.Layout.{endpoint_widths}
use Rattle.picture.specs.Inner.{places_of}
use Rattle.picture.specs.Picture.{Endpoint, endpoint_at}
use Rattle.picture.specs.declared.Places.{Places}
use Rattle.picture.proofs.Starts.{ordered, field_first, endpoint_row}
use Rattle.picture.proofs.endpoint_weight.Goals as goal

pub overflow_add-find_places : goal.overflow_add-find_places
unfolding places_of
overflow_add-find_places c = omega (arith, ordered _ c.requires.0, ap (λ (p : Places). p.endpoints) c.find_places.ensures)

pub returns : goal.returns
unfolding places_of endpoint_at endpoint_widths sum
returns c =
    let a = c.args in
    let pre = c.requires in
    c.field.ensures ∙ ap (λ (p : Places). field_at a.s.now (p.endpoints + (a.c - 1) * 17) 16) c.find_places.ensures
    ∙ sym (ap (λ (x : Endpoint). x.weight) (endpoint_row a.h a.s.now a.c pre.1 pre.2) ∙ field_first _ _ _ _)
