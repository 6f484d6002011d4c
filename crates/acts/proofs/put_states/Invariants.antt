-- `put_states` writes the states of a block's slots, from the last slot to the first. Assumes nothing.
use mathlib.Core.Path.{◌≡◌}
use mathlib.Core.List.{List}
use Prim.Native.Nat.{ℕ, ◌+◌, ◌-◌, ◌*◌, ◌≤◌}
use Rattle.lists.specs.Lists.{range}
use Rattle.picture.specs.declared.Header.{Header}
use Rattle.acts.specs.declared.Act.{Act}
use Rattle.acts.specs.Acts.{put_states}
use Rattle.acts.proofs.Putting.{state_after_lem}
use Rattle.acts.proofs.put_states.Given as goal

-- the slots of block b from v on are written
pub record Loop (old : List ℕ) (h : Header) (a : Act) (b : ℕ) (s : List ℕ) (v : ℕ) : Type 0 where
  pub from : b * h.block_size + 1 ≤ v
  pub same : s ≡ put_states h.edition (state_after_lem a old) old (range v (b * h.block_size + 1 + h.block_size - v))

abbrev pub invariant-loop-v : goal.invariant-loop-v
invariant-loop-v l = Loop l.initial.s l.h l.a l.b l.s l.v
