-- Laws of an act on a picture's lists: each slot of the block has its new state, and every other slot stays. Assumes nothing.
use mathlib.Core.Path.{◌≡◌, refl, sym, ap, ◌∙◌}
use mathlib.Core.Bool.{Bool, true, false, cond}
use Prim.Native.Nat.{ℕ, zero, suc, ◌+◌, ◌*◌, ◌≤◌, ◌<◌}
use native.Mathlib.Omega.{arith}
use native.Mathlib.Decide.{dec_lt}
use native.Mathlib.Numerals.{one-add}
use lib.Dec.{T, eqb, leb, leb→le, le→leb}
use lib.ListN.{length-map}
use Rattle.lists.specs.Lists.{range, item}
use Rattle.lists.proofs.Tests.{and_T, T_and}
use Rattle.lists.proofs.Ranges.{length_range, get_d_map_range}
use Rattle.picture.proofs.Starts.{slot_past}
use Rattle.picture.specs.Layout.{state_max}
use Rattle.picture.specs.Picture.{Picture, Slot, slot_of}
use Rattle.network.specs.Words.{slot_count, in_block}
use Rattle.acts.specs.declared.Act.{Act}
use Rattle.acts.specs.declared.Act.TheVariants.{Evict, Reload, Free}
use Rattle.acts.specs.Acts.{after, slot_after, act_on}

-- ---- a state

-- freed stays freed
pub freed_stays : (a : Act) → after a 2 ≡ 2
unfolding after
freed_stays Evict = refl
freed_stays Reload = refl
freed_stays Free = refl

-- in the act's block or not
freed_kept : (a : Act) (x : Bool) {s : ℕ} → s ≡ 2 → cond x (after a s) s ≡ 2
freed_kept a true e = ap (after a) e ∙ freed_stays a
freed_kept a false e = e

-- a state below a bound that all three states keep stays below it
pub after_small : (a : Act) (s : ℕ) {m : ℕ} → state_max < m → s < m → after a s < m
unfolding after
after_small Evict s {m} w h = go (eqb s 0)
  where
    go : (b : Bool) → cond b 1 s < m
    go true = omega arith
    go false = h
after_small Reload s {m} w h = go (eqb s 1)
  where
    go : (b : Bool) → cond b 0 s < m
    go true = omega arith
    go false = h
after_small Free s w h = w

-- ---- the slots of a block

module _ (p : Picture) (b v : ℕ) where
  pub in_block_lem : T (in_block p b v) → (b * p.block_size + 1 ≤ v) × (v ≤ b * p.block_size + p.block_size)
  unfolding in_block
  in_block_lem t =
      let s = and_T (leb (b * p.block_size + 1) v) (leb v (b * p.block_size + p.block_size)) t in
      (leb→le _ _ s.0, leb→le _ _ s.1)

  pub block_in_lem : b * p.block_size + 1 ≤ v → v ≤ b * p.block_size + p.block_size → T (in_block p b v)
  unfolding in_block
  block_in_lem l m = T_and (leb (b * p.block_size + 1) v) (leb v (b * p.block_size + p.block_size)) (le→leb _ _ l) (le→leb _ _ m)

-- ---- a slot after an act

module _ (a : Act) (p : Picture) (b : ℕ) where
  pub slots_acted : slot_count (act_on a p b) ≡ slot_count p
  unfolding slot_count act_on
  slots_acted = length-map (range 1 (slot_count p)) (slot_after a p b) ∙ length_range 1 (slot_count p)

  -- where there is no slot there is none after the act
  none_acted : (v : ℕ) → slot_of p v ≡ record { state = 2; near = false } → record { state = 2; near = false } ≡ slot_after a p b v
  unfolding slot_after
  none_acted v e = sym (λ i. record { state = freed_kept a (in_block p b v) (ap (λ (s : Slot). s.state) e) i; near = ap (λ (s : Slot). s.near) e i })

  -- so this is of any number, that of a slot or not
  pub slot_acted : (v : ℕ) → slot_of (act_on a p b) v ≡ slot_after a p b v
  unfolding slot_count
  slot_acted zero = unfold slot_of item in none_acted 0 refl
  slot_acted (suc i) = go (dec_lt i (slot_count p))
    where
      go : Dec (i < slot_count p) → slot_of (act_on a p b) (suc i) ≡ slot_after a p b (suc i)
      go (yes l) = unfold slot_of act_on item in get_d_map_range (slot_after a p b) _ 1 (slot_count p) i l ∙ ap (slot_after a p b) (one-add i)
      go (no l) = slot_past (act_on a p b) i (omega (arith, slots_acted)) ∙ none_acted (suc i) (slot_past p i (omega arith))

  -- no act makes a slot near or not near
  pub near_acted : (v : ℕ) → (slot_of (act_on a p b) v).near ≡ (slot_of p v).near
  unfolding slot_after
  near_acted v = ap (λ (s : Slot). s.near) (slot_acted v)

  -- a freed slot is freed after any act
  pub freed_acted : (v : ℕ) → (slot_of p v).state ≡ 2 → (slot_of (act_on a p b) v).state ≡ 2
  unfolding slot_after
  freed_acted v e = ap (λ (s : Slot). s.state) (slot_acted v) ∙ freed_kept a (in_block p b v) e

  -- the states are known where they were
  pub states_known : ((v : ℕ) → 1 ≤ v → v ≤ slot_count p → (slot_of p v).state ≤ state_max)
      → (v : ℕ) → 1 ≤ v → v ≤ slot_count p → (slot_of (act_on a p b) v).state ≤ state_max
  unfolding slot_after
  states_known k v l m = rw (slot_acted v) (go (in_block p b v))
    where
      s : ℕ
      s = (slot_of p v).state

      known : s ≤ state_max
      known = k v l m

      go : (x : Bool) → cond x (after a s) s ≤ state_max
      go true = omega (arith, after_small a s {m = 3} (omega arith) (omega (arith, known)))
      go false = known
