-- `endpoint_protected` reads an endpoint's protected mark. Assumes nothing.
use mathlib.Core.Path.{sym, ap, ◌∙◌}
use Prim.Native.Nat.{ℕ, ◌+◌, ◌-◌, ◌*◌}
use native.Mathlib.Omega.{arith}
use lib.Dec.{eqb}
use Rattle.bits.specs.Bits.{field_at}
use Rattle.lists.specs.Lists.{sum}
use Rattle.picture.specs.Layout.{endpoint_widths}
use Rattle.picture.specs.Inner.{places_of}
use Rattle.picture.specs.Picture.{Endpoint, endpoint_at}
use Rattle.picture.specs.declared.Places.{Places}
use Rattle.picture.proofs.Starts.{ordered, field_second, endpoint_row}
use Rattle.picture.proofs.endpoint_protected.Goals as goal

pub overflow_add-find_places : goal.overflow_add-find_places
unfolding places_of
overflow_add-find_places c = omega (arith, ordered _ c.requires.0, ap (λ (p : Places). p.endpoints) c.find_places.ensures)

pub overflow_add-find_places-2 : goal.overflow_add-find_places-2
unfolding places_of
overflow_add-find_places-2 c = omega (arith, ordered _ c.requires.0, ap (λ (p : Places). p.endpoints) c.find_places.ensures)

pub returns : goal.returns
unfolding places_of endpoint_at endpoint_widths sum
returns c =
    let a = c.args in
    let read = ap (λ (p : Places). field_at a.s.now (p.endpoints + (a.c - 1) * 17 + 16) 1) c.find_places.ensures in
    let row = endpoint_row a.h a.s.now a.c c.requires.1 c.requires.2 in
    ap (λ (x : ℕ). eqb x 1) (c.field.ensures ∙ read ∙ sym (field_second _ _ _ _ _)) ∙ sym (ap (λ (x : Endpoint). x.protected) row)
