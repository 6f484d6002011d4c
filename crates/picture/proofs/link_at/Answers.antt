-- `link_at` reads two adjacent fields as one. Assumes nothing.
use mathlib.Core.Path.{ap, ◌∙◌}
use Prim.Native.Nat.{ℕ, ◌/◌, ◌^◌}
use native.Mathlib.Omega.{arith}
use Rattle.bits.proofs.Masks.{mask_made, masked}
use Rattle.picture.proofs.Starts.{link_halves}
use Rattle.picture.proofs.link_at.Goals as goal

pub overflow_sub-result : goal.overflow_sub-result
overflow_sub-result c = mask_made _ (omega arith)

pub returns : goal.returns
returns c =
    let a = c.args in
    ap (λ (x : ℕ). record { from = c.field-both.result / 2 ^ a.to_bits; to = x }) (masked c.field-both.result a.to_bits (omega arith))
    ∙ link_halves a.s.now a.from_bits a.to_bits a.p c.field-both.ensures
