-- The walk by levels, over any links and any held locations: where each location stands after d levels. Assumes nothing.
use mathlib.Core.Bool.{Bool, false, xor}
use mathlib.Core.Logic.{◌⊎◌, ⊎_elim, by_cases}
use mathlib.Core.Path.{◌≡◌, refl, subst}
use Prim.Native.Nat.{ℕ, zero, suc, ◌≤◌, ◌<◌}
use native.Mathlib.Omega.{arith}
use native.Mathlib.Decide.{dec_le, ℕ_discrete}
use native.Mathlib.Nat.{le_refl}
use lib.Dec.{T}
use Rattle.graph.specs.Chains.{Chain, Reached, Fewest, Lowest, Entry}
use Rattle.graph.specs.Chains.Chain.{step}
use Rattle.graph.specs.Chains.Entry.{unreached, reached}
use Rattle.graph.specs.Sweeps.{Finds, First, Sweep}
use Rattle.graph.specs.Sweeps.Sweep.{entered, kept}
use Rattle.lists.proofs.Tests.{xor_self, xor_false}
use Rattle.graph.proofs.Chains.{chain_none, chain_held, last_link, origin_fewest, fewest_one, fewest_below, fewest_within, reached_fewest}
use Rattle.graph.proofs.Forests.{fewest_reached}

module _ (linked : ℕ → ℕ → Bool) (held : ℕ → Bool) where
  -- no chain of at most d links ends at v
  pub record Beyond (d v : ℕ) : Type 0 where
    pub none : (k : ℕ) → k ≤ d → ¬ Chain linked held k v

  -- where a location stands after d levels: whether it is fresh, its parent and its depth. It is the origin, or its entry is made,
  -- or it is beyond d links, and fresh if it is held
  pub data Standing (d v : ℕ) : Bool → ℕ → ℕ → Type 0 where
    at_origin : v ≡ 0 → Standing d v false zero zero
    made : {p k : ℕ} → suc k ≤ d → Fewest linked held v (suc k) → Lowest linked held v k p → Standing d v false p (suc k)
    waits : Beyond d v → Standing d v (held v) zero zero

  -- the frontier is what has the depth d
  pub record Frontier (d : ℕ) (frontier : ℕ → Bool) : Type 0 where
    pub deep : (v : ℕ) → T (frontier v) → Fewest linked held v d
    pub all : (v : ℕ) → Fewest linked held v d → T (frontier v)

  -- d levels are walked
  pub record Levels (d : ℕ) (frontier fresh : ℕ → Bool) (parent depth : ℕ → ℕ) : Type 0 where
    pub location : (v : ℕ) → Standing d v (fresh v) (parent v) (depth v)
    pub edge : Frontier d frontier

  -- what one more level does to one location: where it stands then, and that it is taken if d + 1 is its depth
  pub record Next (d v : ℕ) (fresh fresh' : Bool) (p k : ℕ) : Type 0 where
    pub standing : Standing (suc d) v fresh' p k
    pub taken_deep : T (xor fresh fresh') → Fewest linked held v (suc d)
    pub deep_taken : Fewest linked held v (suc d) → T (xor fresh fresh')

-- ---- one location in one level

module _ {linked : ℕ → ℕ → Bool} {held : ℕ → Bool} where
  -- nothing reaches the origin by links
  origin_shallow : {v d : ℕ} → v ≡ 0 → ¬ Fewest linked held v (suc d)
  origin_shallow e f = omega (arith, fewest_one origin_fewest (rw e at f))

  module _ {d : ℕ} {frontier : ℕ → Bool} (edge : Frontier linked held d frontier) where
    -- what is found by the frontier and was beyond it has the next depth
    found_fewest : {v u : ℕ} → Beyond linked held d v → T (held v) → First (Finds frontier linked v) u → Fewest linked held v (suc d)
    found_fewest {v} {u} beyond h f =
        record {
          chain = step (edge.deep u f.found.there).chain f.found.link h;
          fewest = λ j c. by_cases (dec_le (suc d) j) (λ l. l) (λ nl. absurd (beyond.none j (omega arith) c));
        }

    -- the lowest finder is the parent
    found_lowest : {v u : ℕ} → First (Finds frontier linked v) u → Lowest linked held v d u
    found_lowest {v} {u} f =
        record {
          depth = edge.deep u f.found.there;
          link = f.found.link;
          lowest = λ w deep l. f.lowest w (record { there = edge.all w deep; link = l });
        }

    -- what is not found is beyond the next level: the location before it on a chain of d + 1 links would find it
    unfound : {v : ℕ} → Beyond linked held d v → (T (held v) → (u : ℕ) → Finds frontier linked v u → ⊥) → Beyond linked held (suc d) v
    unfound {v} beyond why =
        record {
          none =
              λ k l c.
              by_cases (ℕ_discrete k (suc d)) (λ e. last (subst (λ j. Chain linked held j v) e c)) (λ ne. beyond.none k (omega arith) c);
        }
      where
        last : Chain linked held (suc d) v → ⊥
        last c =
            let s = last_link c in
            let f : Fewest linked held s.0 d =
            record {
              chain = s.1;
              fewest = λ j b. by_cases (dec_le d j) (λ l. l) (λ nl. absurd (beyond.none (suc j) (omega arith) (step b s.2 s.3)));
            } in
            why s.3 s.0 (record { there = edge.all s.0 f; link = s.2 })

    next : {v p k p' k' : ℕ} {f f' : Bool} → Standing linked held d v f p k → Sweep (Finds frontier linked v) (suc d) f p k f' p' k' → Next linked held d v f f' p' k'
    next (at_origin e) (entered t first) = absurd t
    next (at_origin e) (kept why) =
        record {
          standing = at_origin e;
          taken_deep = λ t. absurd (xor_self false t);
          deep_taken = λ deep. absurd (origin_shallow e deep);
        }
    next (made l f w) (entered t first) = absurd t
    next (made {k = j} l f w) (kept why) =
        record {
          standing = made {k = j} (omega arith) f w;
          taken_deep = λ t. absurd (xor_self false t);
          deep_taken = λ deep. absurd (omega (arith, fewest_one f deep));
        }
    next {v} (waits beyond) (entered t first) =
        let deep = found_fewest beyond t first in
        record {
          standing = made (le_refl (suc d)) deep (found_lowest first);
          taken_deep = λ _. deep;
          deep_taken = λ _. rw (xor_false (held v)) t;
        }
    next {v} (waits beyond) (kept why) =
        let still = unfound beyond why in
        record {
          standing = waits still;
          taken_deep = λ t. absurd (xor_self (held v) t);
          deep_taken = λ deep. absurd (still.none (suc d) (le_refl (suc d)) deep.chain);
        }

  -- ---- the events of the walk

  -- nothing is entered: the frontier is the origin, and what is held is fresh but for the origin
  pub levels_begun : {frontier fresh : ℕ → Bool} {parent depth : ℕ → ℕ}
      → ((v : ℕ) → T (frontier v) → v ≡ 0) → T (frontier 0) → fresh 0 ≡ false → ((v : ℕ) → 0 < v → fresh v ≡ held v)
      → ((v : ℕ) → parent v ≡ 0) → ((v : ℕ) → depth v ≡ 0) → Levels linked held 0 frontier fresh parent depth
  levels_begun only origin-there origin-stale rest no-parent no-depth =
      record {
        location =
            λ v.
            rw (no-parent v, no-depth v)
            (by_cases
            (ℕ_discrete v 0)
            (λ e. rw (e, origin-stale) (at_origin refl))
            (λ ne. rw (rest v (omega arith)) (waits (record { none = λ k l c. let z : k ≡ 0 = omega arith in ne (chain_none (rw z at c)) }))));
        edge = record { deep = λ v t. rw (only v t) origin_fewest; all = λ v f. rw (chain_none f.chain) origin-there };
      }

  module _ {d : ℕ} {frontier fresh : ℕ → Bool} {parent depth : ℕ → ℕ} (levels : Levels linked held d frontier fresh parent depth) where
    -- one more level is swept: what it takes is the next frontier
    pub levels_next : {frontier' fresh' : ℕ → Bool} {parent' depth' : ℕ → ℕ}
        → ((v : ℕ) → Sweep (Finds frontier linked v) (suc d) (fresh v) (parent v) (depth v) (fresh' v) (parent' v) (depth' v))
        → ((v : ℕ) → frontier' v ≡ xor (fresh v) (fresh' v)) → Levels linked held (suc d) frontier' fresh' parent' depth'
    levels_next {frontier'} {fresh'} {parent'} {depth'} swept takes =
        record {
          location = λ v. (at v).standing;
          edge = record { deep = λ v t. (at v).taken_deep (rw (takes v) at t); all = λ v f. rw (takes v) ((at v).deep_taken f) };
        }
      where
        at : (v : ℕ) → Next linked held d v (fresh v) (fresh' v) (parent' v) (depth' v)
        at v = next levels.edge (levels.location v) (swept v)

    -- the walk is over: the frontier is empty, or there are as many levels as slots
    module _ (n : ℕ) (bound : (v : ℕ) → T (held v) → v ≤ n) (over : ((v : ℕ) → ¬ T (frontier v)) ⊎ (n ≤ d)) where
      none_deeper : {v k : ℕ} → Fewest linked held v k → d < k → ⊥
      none_deeper {v} {k} f l =
          ⊎_elim
          (λ none. let b = fewest_below k f d (omega arith) in none b.0 (levels.edge.all b.0 b.1))
          (λ enough. omega (arith, fewest_within n bound f))
          over

      beyond_unreached : {v : ℕ} → Beyond linked held d v → ¬ Reached linked held v
      beyond_unreached beyond r =
          let m = reached_fewest n bound r in
          by_cases (dec_le m.0 d) (λ l. beyond.none m.0 l m.1.chain) (λ nl. none_deeper m.1 (omega arith))

      -- the parents and the depths are the forest
      pub levels_entry : (v : ℕ) → 0 < v → Entry linked held v (parent v) (depth v)
      levels_entry v l = go (levels.location v)
        where
          go : {p k : ℕ} {f : Bool} → Standing linked held d v f p k → Entry linked held v p k
          go (at_origin e) = absurd (omega arith)
          go (made b f w) = reached f w
          go (waits beyond) = unreached (beyond_unreached beyond)

      -- the slots that are reached are those that were fresh and are no more
      pub taken_reached : {v : ℕ} → 0 < v → T (xor (held v) (fresh v)) → Reached linked held v
      taken_reached {v} l t = go (levels.location v) t
        where
          go : {p k : ℕ} {f : Bool} → Standing linked held d v f p k → T (xor (held v) f) → Reached linked held v
          go (at_origin e) t = absurd (omega arith)
          go (made b f w) t = fewest_reached f
          go (waits beyond) t = absurd (xor_self (held v) t)

      pub reached_taken : {v : ℕ} → 0 < v → Reached linked held v → T (xor (held v) (fresh v))
      reached_taken {v} l r = go (levels.location v)
        where
          go : {p k : ℕ} {f : Bool} → Standing linked held d v f p k → T (xor (held v) f)
          go (at_origin e) = absurd (omega arith)
          go (made b f w) = rw (xor_false (held v)) (chain_held r.chain l)
          go (waits beyond) = absurd (beyond_unreached beyond r)

    -- the origin has the entry of what is not reached
    pub levels_origin : (parent 0 ≡ 0) × (depth 0 ≡ 0)
    levels_origin = go (levels.location 0)
      where
        go : {p k : ℕ} {f : Bool} → Standing linked held d 0 f p k → (p ≡ 0) × (k ≡ 0)
        go (at_origin e) = (refl, refl)
        go (made l f w) = absurd (origin_shallow refl f)
        go (waits beyond) = (refl, refl)
