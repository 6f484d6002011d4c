-- The near slots that reload is judged by are those that it leaves held. Assumes nothing.
use mathlib.Core.Path.{◌≡◌, refl, sym, ap, ap₂, ◌∙◌, fun_ext}
use mathlib.Core.Bool.{Bool, true, false, ◌&&◌, ◌||◌, cond, and-true, and-false, or-false}
use Prim.Native.Nat.{ℕ, zero, suc}
use borrow.Author.Tests.{eqb-true}
use lib.Dec.{eqb}
use lib.ListN.{length}
use Rattle.lists.specs.Lists.{range, filter}
use Rattle.picture.specs.Picture.{Picture, Slot, slot_of}
use Rattle.network.specs.Words.{slot_count, in_block, is_held}
use Rattle.network.specs.Tests.{is_near_held}
use Rattle.acts.specs.declared.Act.TheVariants.{Reload}
use Rattle.acts.specs.Acts.{after, slot_after, act_on, recoverable_near, near_after}
use Rattle.acts.proofs.Slots.{slot_acted, near_acted}

-- a state is 0 after reload where it was 0 or, in the block, 1
reload_state : (x : Bool) (s : ℕ) → eqb (cond x (after Reload s) s) 0 ≡ (eqb s 0 || (x && eqb s 1))
unfolding after
reload_state true s = go (eqb s 1) refl
  where
    go : (y : Bool) → eqb s 1 ≡ y → eqb (cond y 0 s) 0 ≡ (eqb s 0 || y)
    go true e = rw (eqb-true s 1 e)
    go false e = sym (or-false (eqb s 0))
reload_state false s = sym (or-false (eqb s 0))

-- near and held, or near and recoverable in the block
regroup : (h x n r : Bool) → ((h || (x && r)) && n) ≡ ((h && n) || (x && (n && r)))
regroup true x true r = refl
regroup true true false r = refl
regroup true false false r = refl
regroup false true true r = and-true r
regroup false true false r = and-false r
regroup false false n r = refl

module _ (p : Picture) (b : ℕ) where
  -- held after reload is what was held, and what was recoverable in the block
  pub reloaded_held : (v : ℕ) → is_held (act_on Reload p b) v ≡ (is_held p v || (in_block p b v && eqb (slot_of p v).state 1))
  unfolding is_held slot_after
  reloaded_held zero = refl
  reloaded_held (suc i) = ap (λ (s : Slot). eqb s.state 0) (slot_acted Reload p b (suc i)) ∙ reload_state (in_block p b (suc i)) (slot_of p (suc i)).state

  reloaded_near : (v : ℕ) → is_near_held (act_on Reload p b) v ≡ (is_near_held p v || recoverable_near p b v)
  unfolding is_near_held recoverable_near
  reloaded_near v = ap₂ (λ (x y : Bool). x && y) (reloaded_held v) (near_acted Reload p b v) ∙ regroup (is_held p v) (in_block p b v) (slot_of p v).near (eqb (slot_of p v).state 1)

  -- so the number that is held to κ is that of the held near slots after reload
  pub near_counted : near_after p b ≡ length (filter (is_near_held (act_on Reload p b)) (range 1 (slot_count p)))
  unfolding near_after
  near_counted = ap (λ (f : ℕ → Bool). length (filter f (range 1 (slot_count p)))) (sym (fun_ext reloaded_near))
