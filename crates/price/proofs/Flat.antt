-- A flat network by chains: what is reached, and what a block cuts. Assumes nothing.
use mathlib.Core.Path.{◌≡◌, refl, sym, ◌∙◌, subst}
use mathlib.Core.Bool.{Bool, not}
use mathlib.Core.Logic.{◌⊎◌, inl, inr, ◌↔◌, ⊎_elim, by_cases}
use Prim.Native.Nat.{ℕ, ◌-◌, ◌/◌, ◌≤◌}
use native.Mathlib.Omega.{arith}
use native.Mathlib.Decide.{ℕ_discrete}
use native.Mathlib.Nat.{div-add-mod', div-eq_of_lt-le, mod-lt, suc-mul}
use native.Mathlib.Numerals.{add-one}
use lib.Dec.{T, T_not}
use Rattle.std.proofs.lemmas.Bool.Decides.{nat_tests}
use Rattle.lists.proofs.Tests.{and_T, T_and, either}
use Rattle.graph.specs.Chains.{Chain, Reached}
use Rattle.graph.specs.Chains.Chain.{origin, step}
use Rattle.graph.proofs.Chains.{chain_held}
use Rattle.picture.specs.Picture.{Picture}
use Rattle.network.specs.Words.{in_block, is_held, without_block, held_without, joins, Served, Cuts}
use Rattle.network.proofs.Evicting.{chain_more, without_held}
use Rattle.price.specs.Feeders.{Flat, OnlyFeeder}

-- ---- what is reached

-- of a flat network: the origin, and the held slots with a link from it
pub flat_reached : {p : Picture} → Flat p → {held : ℕ → Bool} {v : ℕ} → Reached (joins p.links) held v → (v ≡ 0) ⊎ (T (joins p.links 0 v) × T (held v))
flat_reached {p} f {held} {v} r = go r.chain
  where
    go : {k v : ℕ} → Chain (joins p.links) held k v → (v ≡ 0) ⊎ (T (joins p.links 0 v) × T (held v))
    go origin = inl refl
    go (step {a = a} {b = b} c l h) = inr (subst (λ (x : ℕ). T (joins p.links x b)) (f.start a b l) l, h)

-- of any network these at least: a chain of one link
pub reached_flat : (p : Picture) {held : ℕ → Bool} {v : ℕ} → T (joins p.links 0 v) → T (held v) → Reached (joins p.links) held v
reached_flat p l h = record { links = 1; chain = step origin l h }

-- ---- the block of a slot

module _ (p : Picture) (h : 1 ≤ p.block_size) where
  -- every slot is in this one
  pub block_here : (v : ℕ) → 1 ≤ v → T (in_block p ((v - 1) / p.block_size) v)
  unfolding in_block
  block_here v l = grind (arith, nat_tests, div-add-mod' (v - 1) p.block_size, mod-lt (v - 1) h)

  -- and in no other, so two blocks of a slot are one
  pub block_one : (b v : ℕ) → T (in_block p b v) → b ≡ (v - 1) / p.block_size
  unfolding in_block
  block_one b v t = sym (div-eq_of_lt-le p.block_size (grind (arith, nat_tests)) (rw (add-one b, suc-mul b p.block_size) (grind (arith, nat_tests))))

-- ---- what a block cuts

-- a slot that is reached without a block is not of it
reached_outside : (p : Picture) (b v : ℕ) → 1 ≤ v → Reached (joins p.links) (held_without p b) v → ¬ T (in_block p b v)
unfolding without_block
reached_outside p b v l r = T_not (in_block p b v) (and_T (is_held p v) (not (in_block p b v)) (chain_held r.chain l)).1

module _ {p : Picture} where
  -- in a flat network a reached location outside the block is reached without the block
  reached_without : Flat p → (b : ℕ) {v : ℕ} → T (not (in_block p b v)) → Reached (joins p.links) (is_held p) v
      → Reached (joins p.links) (held_without p b) v
  unfolding without_block
  reached_without f b {v} n r =
      ⊎_elim (λ e. rw e (record { links = 0; chain = origin }))
      (λ s. reached_flat p s.0 (T_and (is_held p v) (not (in_block p b v)) s.1 n)) (flat_reached f r)

  -- so every reached location that serves an endpoint which the block cuts is of the block
  cut_inside : Flat p → (b : ℕ) → {c v : ℕ} → Cuts p b c → T (joins p.service_links v c) → Reached (joins p.links) (is_held p) v → T (in_block p b v)
  cut_inside f b {c} {v} k s r =
      ⊎_elim (λ t. t) (λ n. absurd (k.after (record { location = v; serves = s; reached = reached_without f b n r }))) (either (in_block p b v))

  -- so the block is the one feeder, and the origin does not serve
  cuts_only : Flat p → 1 ≤ p.block_size → (b : ℕ) → {c : ℕ} → Cuts p b c → OnlyFeeder p b c
  unfolding in_block
  cuts_only f h b {c} k =
      let inside = cut_inside f b k k.before.serves k.before.reached in
      record {
        feeds = record { slot = k.before.location; inside = inside; reached = k.before.reached; serves = k.before.serves };
        only = λ a w. block_one p h a w.slot w.inside ∙ sym (block_one p h b w.slot (cut_inside f b k w.serves w.reached));
        origin = λ s.
            let t = cut_inside f b k s (record { links = 0; chain = origin }) in
            grind (arith, nat_tests);
      }

  -- in any network: a slot that served without the block would be of a feeder, and so of the block
  only_cuts : 1 ≤ p.block_size → {b c : ℕ} → OnlyFeeder p b c → Cuts p b c
  only_cuts h {b} {c} o = record { before = record { location = o.feeds.slot; serves = o.feeds.serves; reached = o.feeds.reached }; after = after }
    where
      after : ¬ Served p (held_without p b) c
      after w =
          let v = w.location in
          let r : Reached (joins p.links) (is_held p) v = record { links = w.reached.links; chain = chain_more (without_held p b) w.reached.chain } in
          by_cases (ℕ_discrete v 0) (λ e. o.origin (subst (λ (x : ℕ). T (joins p.service_links x c)) e w.serves))
          (λ ne.
          let l : 1 ≤ v = omega arith in
          let inside = block_here p h v l in
          let e = o.only ((v - 1) / p.block_size) (record { slot = v; inside = inside; reached = r; serves = w.serves }) in
          reached_outside p b v l w.reached (subst (λ (x : ℕ). T (in_block p x v)) e inside))

-- in a flat network a block cuts the endpoints whose one feeder it is
pub flat_cuts : {p : Picture} → Flat p → 1 ≤ p.block_size → (b c : ℕ) → Cuts p b c ↔ OnlyFeeder p b c
flat_cuts f h b c = (λ k. cuts_only f h b k, λ o. only_cuts h o)
