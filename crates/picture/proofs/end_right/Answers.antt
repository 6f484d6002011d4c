-- `end_right` tests the fill bits and the end. Assumes nothing.
use mathlib.Core.Path.{◌≡◌, refl, sym, ap, ap₂, ◌∙◌}
use native.Mathlib.Omega.{arith}
use Prim.Native.Nat.{ℕ, ◌+◌, ◌-◌, ◌*◌, ◌^◌, ◌≤◌, ◌<◌}
use lib.Dec.{eqb}
use borrow.Author.Tests.{eq-eqb, ne_eqb}
use Rattle.bits.specs.Bits.{field_at}
use Rattle.picture.specs.Layout.{end_at, size_of}
use Rattle.picture.specs.Inner.{places_of}
use Rattle.picture.specs.declared.Header.{Header}
use Rattle.picture.specs.declared.Places.{Places}
use Rattle.picture.specs.Faults.{end_right}
use Rattle.picture.proofs.Starts.{ordered, rounded}
use Rattle.picture.proofs.end_right.Goals as goal
use Rattle.picture.proofs.end_right.Goals.{After-field, After-find_places-end}

-- what was found of the size and the end
record Sized (h : Header) (z f : ℕ) : Type 0 where
  pub size : z ≡ size_of h
  pub end : f ≡ end_at h
  pub room : f ≤ z * 8
  pub tight : z * 8 ≤ f + 7
  pub small : f < 2 ^ 20

sized : (c : After-find_places-end) → Sized c.args.h c.size_of-size.result c.find_places-end.result.end
unfolding places_of
sized c =
    let h = c.args.h in
    let z = c.size_of-size.ensures in
    let e = ap (λ (p : Places). p.end) c.find_places-end.ensures in
    let r = rounded h in
    let o = ordered h c.requires in
    record { size = z; end = e; room = omega arith; tight = omega arith; small = omega arith }

-- the fill bits as they were read
fill : (c : After-field) → let a = c.args in let e = end_at a.h in
    c.field.result ≡ field_at a.s.now e (size_of a.h * 8 - e)
fill c =
    let k = sized (goal.at.After-field c).After-find_places-end in
    c.field.ensures ∙ ap₂ (λ (e z : ℕ). field_at c.args.s.now e (z * 8 - e)) k.end k.size

pub overflow_mul-size : goal.overflow_mul-size
overflow_mul-size c = omega (arith, sized (goal.at.overflow_mul-size c).After-find_places-end)

pub overflow_sub-size : goal.overflow_sub-size
overflow_sub-size c = omega (arith, sized (goal.at.overflow_sub-size c).After-find_places-end)

pub field-requires : goal.field-requires
field-requires c = omega (arith, sized (goal.at.field-requires c).After-find_places-end)

pub returns-then-field-eq0 : goal.returns-then-field-eq0
unfolding end_right
returns-then-field-eq0 c =
    rw (eq-eqb _ _ (sym (fill (goal.at.returns-then-field-eq0 c).After-field) ∙ c.if-field-eq0.true)) (ap (eqb _) (sized (goal.at.returns-then-field-eq0 c).After-find_places-end).size)

pub returns-else-field-eq0 : goal.returns-else-field-eq0
unfolding end_right
returns-else-field-eq0 c =
    rw (ne_eqb _ _ c.if-field-eq0.false, ne_eqb _ _ (λ z. c.if-field-eq0.false (fill (goal.at.returns-else-field-eq0 c).After-field ∙ z))) refl
