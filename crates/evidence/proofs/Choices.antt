-- One candidate more than a choice by numbers is what it is of the choice itself. Assumes nothing.
use mathlib.Core.Path.{◌≡◌, refl}
use mathlib.Core.Bool.{Bool, true, false, ◌&&◌, cond}
use Rattle.std.specs.Prelude.{Option, Some, None}
use lib.Dec.{eqb}
use Rattle.network.specs.declared.Cost.{Cost}
use Rattle.evidence.specs.Canonical.{is_less, bettered}
use Rattle.evidence.specs.Choices.{choice_numbers, bettered_numbers}

none_more : (t : Bool) (w : Cost) → cond (t && true) (choice_numbers (Some w)) (choice_numbers None) ≡ choice_numbers (cond t (Some w) None)
none_more true w = refl
none_more false w = refl

some_more : (t : Bool) (w c : Cost) → cond t (choice_numbers (Some w)) (choice_numbers (Some c)) ≡ choice_numbers (cond t (Some w) (Some c))
some_more true w c = refl
some_more false w c = refl

pub bettered_same : (c : Option Cost) (w : Cost) → bettered_numbers (choice_numbers c) w ≡ choice_numbers (bettered c w)
unfolding bettered_numbers bettered is_less
bettered_same None w = none_more (eqb w.mark 0) w
bettered_same (Some c) w = some_more (eqb w.mark 0 && is_less w c) w c
