-- What the sections state, one by one, and the choice that they imply. Assumes nothing.
use Rattle.std.proofs.Common.{take_all}
use Rattle.std.proofs.lemmas.List.{take_more}
use mathlib.Core.Path.{◌≡◌, refl, sym, ◌∙◌}
use mathlib.Core.List.{List, []}
use Prim.Native.Nat.{ℕ, ◌+◌, ◌≤◌, ◌<◌}
use native.Mathlib.Nat.{zero-add}
use lib.ListN.{length, get_or, take, length-map}
use Rattle.std.specs.Prelude.{Option, None}
use Rattle.lists.specs.Lists.{range}
use Rattle.lists.proofs.Ranges.{length_range, get_d_map_range}
use Rattle.picture.specs.declared.Edition.{Edition}
use Rattle.network.specs.declared.Cost.{Cost}
use Rattle.evidence.specs.Canonical.{no_cost, bettered, bettering, least}
use Rattle.evidence.proofs.Least.{least_last}
use Rattle.checker.specs.Verdict.{cost_in, stated}

module _ (e : Edition) (n : ℕ) (ev cuts : List ℕ) where
  pub stated_length : length (stated e n ev cuts) ≡ length cuts
  unfolding stated
  stated_length = length-map (range 0 (length cuts)) (cost_in e n ev cuts) ∙ length_range 0 (length cuts)

  pub stated_cost : (i : ℕ) → i < length cuts → get_or (stated e n ev cuts) i no_cost ≡ cost_in e n ev cuts i
  unfolding stated
  stated_cost i l = rw zero-add at (get_d_map_range (cost_in e n ev cuts) no_cost 0 (length cuts) i l)

-- how many there are, and each
pub ruleset stating = (stated_length, stated_cost)

-- no section implies a choice yet
pub least_begun : None ≡ least []
unfolding least bettering
least_begun = refl

-- one section more
pub least_more : (ws : List Cost) (i : ℕ) (best : Option Cost) → i < length ws → best ≡ least (take i ws) → bettered best (get_or ws i no_cost) ≡ least (take (i + 1) ws)
least_more ws i best l so = rw (so, take_more ws i no_cost l) (sym (least_last (take i ws) (get_or ws i no_cost)))

-- every section was looked at
pub least_ended : (ws : List Cost) (i : ℕ) (best : Option Cost) → length ws ≤ i → best ≡ least (take i ws) → best ≡ least ws
least_ended ws i best l so = rw take_all at so

-- the choice that sections imply, from the first to the last
pub ruleset choosing = (least_begun, least_more, least_ended)
