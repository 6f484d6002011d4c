-- `judge_pairs` finds the first pair that is not let pass. Assumes nothing.
use mathlib.Core.Path.{◌≡◌, refl, sym, ap, ◌∙◌}
use mathlib.Core.List.{List, [], map}
use Prim.Native.Nat.{ℕ}
use native.Mathlib.Omega.{arith}
use lib.ListN.{get_or, length-map, get_or-map}
use Rattle.std.proofs.lemmas.Result.{err_from_is_err_and}
use Rattle.picture.specs.declared.Link.{Link}
use Rattle.picture.specs.Refusals.{fault_of}
use Rattle.picture.proofs.Finding.{scanning_begun, scanning_hit, scanning_miss, scanning_ended}
use Rattle.picture.proofs.Refusing.{number_some}
use Rattle.write.specs.Columns.{link_from}
use Rattle.write.proofs.judge_pairs.Goals as goal

-- a link of the list
here : (pairs : List (List ℕ)) (i : ℕ) {l : Link} → l ≡ link_from (get_or pairs i []) → l ≡ get_or (map link_from pairs) i (link_from [])
here pairs i e = e ∙ sym (get_or-map link_from pairs i [])

pub loop-pair-init : goal.loop-pair-init
loop-pair-init g c = λ fault f. scanning_begun (simp length-map)

pub returns-in_err-judge : goal.returns-in_err-judge
returns-in_err-judge g c = λ fault f.
    let p = err_from_is_err_and c.from_residual.result c.from_residual.ensures.1 in
    rw (p.1, p.2)
    (scanning_hit (c.loop-pair.invariant fault f) (omega arith) (here c.args.pairs.now c.loop-pair.pair-index c.link_from.ensures)
    (sym (ap fault_of c.in_err-judge.was) ∙ f _ _ c.judge.ensures) (number_some _))

pub loop-pair-preserved : goal.loop-pair-preserved
loop-pair-preserved g c = λ fault f.
    scanning_miss (c.loop-pair.invariant fault f) (omega arith) (here c.args.pairs.now c.loop-pair.pair-index c.link_from.ensures) (sym (ap fault_of c.in_ok-judge.was) ∙ f _ _ c.judge.ensures) refl

pub returns : goal.returns
returns g c = λ fault f. scanning_ended (c.loop-pair.invariant fault f) (omega arith)
