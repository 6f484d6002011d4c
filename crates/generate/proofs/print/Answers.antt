-- `print` writes what is made. Assumes nothing.
use Rattle.std.proofs.Common.{ℕ, List, ◌≤◌, length, arith, refl, sym}
use Rattle.std.proofs.lemmas.List.{length-take-le}
use Rattle.picture.specs.declared.Header.{Header}
use Rattle.std.specs.Prelude.{Ok}
use Rattle.write.proofs.Answering.{fills_most}
use Rattle.generator.specs.Answers.{Generates}
use Rattle.generator.proofs.Judged.{made_right}
use Rattle.generate.proofs.print.Goals as goal

-- the picture is within the array
within : (seed : ℕ) (h : Header) (buf : List ℕ) {n : ℕ} {out : List ℕ} → Generates seed h buf (Ok n) out → n ≤ length buf
within seed h buf f = fills_most f (λ z. (made_right h buf z).1) _ refl

pub slice_bounds-picture-end : goal.slice_bounds-picture-end
slice_bounds-picture-end g c = omega (arith, within _ _ _ c.in-Ok.ensures)

pub slice_bounds-write_all-end : goal.slice_bounds-write_all-end
slice_bounds-write_all-end g c = sym (length-take-le _ _ (omega (arith, within _ _ _ c.in-Ok.ensures)))
