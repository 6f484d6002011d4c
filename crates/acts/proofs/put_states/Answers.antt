-- `put_states` writes the states of a block's slots, from the last slot to the first. Assumes nothing.
use mathlib.Core.Path.{◌≡◌, ap, ◌∙◌}
use Prim.Native.Nat.{ℕ, ◌+◌, ◌-◌, ◌*◌}
use native.Mathlib.Omega.{arith}
use lib.ListN.{length}
use Rattle.bits.specs.Bits.{put_field}
use Rattle.lists.specs.Lists.{range, sum}
use Rattle.picture.specs.Layout.{slot_widths, slots_at}
use Rattle.picture.proofs.Facts.{read_limited}
use Rattle.acts.specs.Acts.{after, put_states}
use Rattle.acts.proofs.Headers.{read_within, read_long}
use Rattle.acts.proofs.States.{length_put_states}
use Rattle.acts.proofs.Putting.{state_after_lem, put_begun, put_state_most, put_next, put_ended}
use Rattle.acts.proofs.put_states.Goals as goal
use Rattle.acts.proofs.put_states.Goals.{At-loop-v}

-- the slice keeps its length
kept : (c : At-loop-v) → length c.loop-v.s ≡ length c.args.s.now
kept c = ap length c.loop-v.invariant.same ∙ length_put_states c.args.h.edition _ c.args.s.now _

pub loop-v-init : goal.loop-v-init
loop-v-init c = record { from = omega arith; same = put_begun _ _ _ c.requires.0 _ }

pub state_of-state-requires : goal.state_of-state-requires
state_of-state-requires c =
    let r = c.requires.0 in
    let l = c.loop-v in (
      read_limited _ _ r,
      omega arith,
      omega (arith, read_within _ _ r _ c.requires.1),
      put_state_most c.args.a _ _ r l.v _ l.s (omega arith) (omega arith) (omega (arith, read_within _ _ r _ c.requires.1)) l.invariant.same,
    )

pub put_state-requires : goal.put_state-requires
put_state-requires c =
    let r = c.requires.0 in (
      read_limited _ _ r,
      omega arith,
      omega (arith, read_within _ _ r _ c.requires.1),
      omega (arith, kept (goal.at.put_state-requires c).At-loop-v, read_long _ _ r),
    )

pub loop-v-preserved : goal.loop-v-preserved
loop-v-preserved c =
    let l = c.loop-v in
    let a = c.args in
    let at = slots_at a.h.edition + (l.v - 1 - 1) * sum slot_widths in
    let state = c.number.ensures ∙ c.after.ensures ∙ ap (after a.a) c.state_of-state.ensures in
    record {
      from = omega arith;
      same = put_next a.a a.s.now a.h c.requires.0 l.v _ l.s _ (omega arith) (omega arith)
          (omega (arith, read_within _ _ c.requires.0 _ c.requires.1)) l.invariant.same
          (c.put_state.ensures ∙ ap (put_field l.s at 2) state);
    }

pub returns : goal.returns
returns c =
    let l = c.loop-v in
    let a = c.args in
    let first : l.v ≡ a.b * a.h.block_size + 1 = omega (arith, l.invariant.from) in
    let end = a.b * a.h.block_size + 1 + a.h.block_size in
    l.invariant.same ∙ ap (λ (v : ℕ). put_states a.h.edition (state_after_lem a.a a.s.now) a.s.now (range v (end - v))) first
    ∙ put_ended _ _ _ c.requires.0 _ _ (omega arith)
