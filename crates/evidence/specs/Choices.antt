-- A choice by numbers, as the head of evidence states one, with how many endpoints it cuts; whatever these numbers are. Assumes nothing.
use Rattle.std.specs.Prelude.{◌&&◌, ◌||◌, cond, Option, Some, None, eqb}
use Rattle.network.specs.declared.Cost.{Cost}
use Rattle.evidence.specs.declared.Choice.{Choice}
use Rattle.evidence.specs.Canonical.{is_less}

-- the numbers of a choice: verdict 1 and what it costs, or all 0
abbrev pub choice_numbers : Option Cost → Choice
choice_numbers None = record { verdict = 0; block = 0; loss = 0; cuts = 0 }
choice_numbers (Some w) = record { verdict = 1; block = w.block; loss = w.loss; cuts = w.cuts }

-- what a choice of these numbers costs
abbrev pub choice_cost : Choice → Cost
choice_cost c = record { block = c.block; loss = c.loss; cuts = c.cuts; mark = 0 }

-- the choice with one candidate more: it is taken where it cuts no protected endpoint, and the verdict is 0 or it comes before what is chosen
unfoldable pub bettered_numbers : Choice → Cost → Choice
bettered_numbers c w = cond (eqb w.mark 0 && (eqb c.verdict 0 || is_less w (choice_cost c))) (choice_numbers (Some w)) c
