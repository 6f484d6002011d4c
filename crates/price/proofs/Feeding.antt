-- What the service links to an endpoint tell together is its one feeder, by chains. Assumes nothing.
use mathlib.Core.Path.{◌≡◌, refl, sym, ◌∙◌, subst}
use mathlib.Core.Bool.{◌&&◌}
use mathlib.Core.Logic.{◌⊎◌, inl, inr, ⊎_elim, by_cases}
use Prim.Native.Nat.{ℕ, ◌-◌, ◌*◌, ◌/◌, ◌%◌, ◌≤◌, ◌<◌}
use native.Mathlib.Omega.{arith}
use native.Mathlib.Decide.{ℕ_discrete}
use borrow.Author.Tests.{eq-eqb, ne_eqb}
use lib.Dec.{T}
use Rattle.std.proofs.lemmas.Bool.Decides.{nat_tests}
use Rattle.lists.proofs.Tests.{and_T, T_and, T?, is_true, is_false}
use Rattle.picture.specs.Layout.{blocks_max}
use Rattle.picture.specs.Picture.{Picture}
use Rattle.network.specs.Words.{slot_count, block_count, in_block, is_held, joins, Named}
use Rattle.network.proofs.Candidates.{block_below}
use Rattle.price.specs.Feeders.{Flat, Feeds, OnlyFeeder}
use Rattle.price.specs.Inner.{no_feeder, not_one, told, jointly}
use Rattle.price.proofs.Flat.{flat_reached, reached_flat, block_here, block_one}
use Rattle.price.proofs.Telling.{Tells, tells_from, from_tells, one_told, told_one}

-- ---- what is told at a location

module _ (p : Picture) where
  -- that no block is, by the origin; the block of a reached slot; nothing by any other slot
  data Said (v : ℕ) : ℕ → Type 0 where
    origin : v ≡ 0 → Said v not_one
    reached : 1 ≤ v → T (is_held p v) → T (joins p.links 0 v) → Said v ((v - 1) / p.block_size)
    other : ¬ T (is_held p v && joins p.links 0 v) → Said v no_feeder

  said : (v : ℕ) → Said v (told p v)
  unfolding told
  said v =
      by_cases
      (ℕ_discrete v 0)
      (λ e. rw (eq-eqb v 0 e) (origin e))
      (λ n. by_cases
      (T? (is_held p v && joins p.links 0 v))
      (λ t.
      let s = and_T (is_held p v) (joins p.links 0 v) t in
      rw (ne_eqb v 0 n, is_true (is_held p v && joins p.links 0 v) t) (reached (omega arith) s.0 s.1))
      (λ m. rw (ne_eqb v 0 n, is_false (is_held p v && joins p.links 0 v) m) (other m)))

  told_origin : told p 0 ≡ not_one
  unfolding told
  told_origin = refl

  -- the origin is of no block
  inside_some : (b v : ℕ) → T (in_block p b v) → 1 ≤ v
  unfolding in_block
  inside_some b v t = grind (arith, nat_tests)

-- ---- what is told of an endpoint, in a flat network of whole blocks

module _ {p : Picture} (f : Flat p) (n : Named p) (s : 1 ≤ p.block_size) (w : slot_count p % p.block_size ≡ 0) (m : block_count p ≤ blocks_max) where
  -- a feeder is one of the blocks
  feeds_below : {b c : ℕ} → Feeds p b c → b < block_count p
  unfolding block_count in_block
  feeds_below {b} {c} k =
      let v = k.slot in
      let l : b * p.block_size < slot_count p = grind (arith, nat_tests, (n.services v c k.serves).0) in
      block_below (slot_count p) p.block_size b w l

  -- whose number is told at its slot
  feeds_told : {b c : ℕ} (k : Feeds p b c) → told p k.slot ≡ b
  feeds_told {b} {c} k = go (said p k.slot)
    where
      some : 1 ≤ k.slot
      some = inside_some p b k.slot k.inside

      go : {y : ℕ} → Said p k.slot y → y ≡ b
      go (origin e) = absurd (omega (arith, some))
      go (reached l h j) = sym (block_one p s b k.slot k.inside)
      go (other o) = absurd (⊎_elim (λ e. omega (arith, some)) (λ t. o (T_and _ _ t.1 t.0)) (flat_reached f k.reached))

  -- a slot that tells its block, and an endpoint with a service link from there
  reached_feeds : {v c : ℕ} → 1 ≤ v → T (is_held p v) → T (joins p.links 0 v) → T (joins p.service_links v c) → Feeds p ((v - 1) / p.block_size) c
  reached_feeds {v} l h j k = record { slot = v; inside = block_here p s v l; reached = reached_flat p j h; serves = k }

  -- where a block is told, it is the one feeder: another would tell its own number, and the origin would tell that no block is
  pub feeder_only : (b c : ℕ) → b < blocks_max → jointly (told p) c p.service_links ≡ b → OnlyFeeder p b c
  feeder_only b c l e =
      let t = told_one (told p) c p.service_links (λ q. absurd (omega arith)) (λ q. absurd (omega arith)) e in
      let r = tells_from (told p) c t.some in
      let tells : (v : ℕ) → T (joins p.service_links v c) → (told p v ≡ b) ⊎ (told p v ≡ no_feeder) =
      λ v k. t.others (told p v) (from_tells (told p) c p.service_links v k) in
      record {
        feeds = feeds (said p r.location) r.serves r.tells;
        only = λ a k. ⊎_elim (λ q. sym (feeds_told k) ∙ q) (λ q. absurd (omega (arith, feeds_told k, feeds_below k))) (tells k.slot k.serves);
        origin = λ k. ⊎_elim (λ q. omega (arith, told_origin p)) (λ q. omega (arith, told_origin p)) (tells 0 k);
      }
    where
      feeds : {v y : ℕ} → Said p v y → T (joins p.service_links v c) → y ≡ b → Feeds p b c
      feeds (origin q) k d = absurd (omega arith)
      feeds (reached a h j) k d = subst (λ (x : ℕ). Feeds p x c) d (reached_feeds a h j k)
      feeds (other o) k d = absurd (omega arith)

  module _ {b c : ℕ} (o : OnlyFeeder p b c) where
    -- the one feeder is one of the blocks
    pub only_below : b < block_count p
    only_below = feeds_below o.feeds

    -- where a block is the one feeder, it is told: at its slot, and elsewhere nothing else is
    pub only_feeder : jointly (told p) c p.service_links ≡ b
    only_feeder =
        one_told (told p) c (λ q. absurd (omega (arith, only_below)))
        (record {
          some = subst (Tells (told p) c p.service_links) (feeds_told o.feeds) (from_tells (told p) c p.service_links o.feeds.slot o.feeds.serves);
          others =
              λ y t.
              let r = tells_from (told p) c t in
              subst (λ (x : ℕ). (x ≡ b) ⊎ (x ≡ no_feeder)) r.tells (other_tells (said p r.location) r.serves);
        })
      where
        other_tells : {v y : ℕ} → Said p v y → T (joins p.service_links v c) → (y ≡ b) ⊎ (y ≡ no_feeder)
        other_tells (origin e) k = absurd (o.origin (subst (λ (x : ℕ). T (joins p.service_links x c)) e k))
        other_tells (reached a h j) k = inl (o.only _ (reached_feeds a h j k))
        other_tells (other m) k = inr refl
