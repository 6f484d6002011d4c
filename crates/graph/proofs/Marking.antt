-- The marks after k rounds are the ends of chains of at most k links. Assumes nothing.
use mathlib.Core.Path.{◌≡◌, sym, ap, ◌∙◌, subst}
use mathlib.Core.Bool.{Bool, false, ◌&&◌}
use mathlib.Core.Logic.{◌⊎◌, inl, inr}
use Prim.Native.Nat.{ℕ, zero, suc, ◌≤◌, zero-le, suc-le-suc}
use native.Mathlib.Omega.{arith}
use native.Mathlib.Decide.{dec_le}
use native.Mathlib.Nat.{zero-add}
use lib.Dec.{T, eqb, eqb→eq}
use lib.ListN.{length, get_or, length-map, get_or-eq_default}
use Rattle.lists.specs.Lists.{range, any}
use Rattle.lists.proofs.Tests.{and_T, T_and, or_T, T-or-l, T-or-r}
use Rattle.lists.proofs.Ranges.{length_range, get_d_map_range, any_range, range_any}
use Rattle.graph.specs.Chains.{Chain, origin, step}
use Rattle.graph.specs.Rounds.{further, within}

-- a chain of at most k links that ends at v
pub record AtMost (linked : ℕ → ℕ → Bool) (held : ℕ → Bool) (k v : ℕ) : Type 0 where
  pub links : ℕ
  pub few : links ≤ k
  pub chain : Chain linked held links v

module _ (linked : ℕ → ℕ → Bool) (held : ℕ → Bool) (n : ℕ) where
  -- v is marked after k rounds
  abbrev pub Marked : ℕ → ℕ → Type 0
  Marked k v = T (get_or (within linked held n k) v false)

  pub length_within : (k : ℕ) → length (within linked held n k) ≡ suc n
  unfolding within
  length_within zero = length-map (range 0 (suc n)) (λ v. eqb v 0) ∙ length_range 0 (suc n)
  length_within (suc k) = length-map (range 0 (suc n)) (further linked held n (within linked held n k)) ∙ length_range 0 (suc n)

  pub marked_le : (k v : ℕ) → Marked k v → v ≤ n
  marked_le k v t = go (dec_le v n)
    where
      go : Dec (v ≤ n) → v ≤ n
      go (yes h) = h
      go (no h) = absurd (subst T (get_or-eq_default (within linked held n k) false (omega (arith, length_within k))) t)

  -- ---- one round

  pub start_at : (v : ℕ) → v ≤ n → get_or (within linked held n zero) v false ≡ eqb v 0
  unfolding within
  start_at v h = get_d_map_range (λ v. eqb v 0) false 0 (suc n) v (omega arith) ∙ ap (λ (x : ℕ). eqb x 0) (zero-add v)

  pub next_at : (k v : ℕ) → v ≤ n → get_or (within linked held n (suc k)) v false ≡ further linked held n (within linked held n k) v
  unfolding within
  next_at k v h = get_d_map_range (further linked held n (within linked held n k)) false 0 (suc n) v (omega arith) ∙ ap (further linked held n (within linked held n k)) (zero-add v)

  -- a location marked after k rounds, and a step from it to v
  pub record Into (k v : ℕ) : Type 0 where
    pub before : ℕ
    pub marked : Marked k before
    pub link : T (linked before v)
    pub holds : T (held v)

  -- a round keeps what is marked
  pub marked_next : (k v : ℕ) → Marked k v → Marked (suc k) v
  unfolding further
  marked_next k v t = subst T (sym (next_at k v (marked_le k v t))) (T-or-l (get_or (within linked held n k) v false) _ t)

  -- and marks what is a step away
  pub step_next : (k v : ℕ) → v ≤ n → Into k v → Marked (suc k) v
  unfolding further
  step_next k v h i =
      subst T (sym (next_at k v h))
      (T-or-r (get_or (within linked held n k) v false) _
      (T_and (held v) _ i.holds
      (range_any _ 0 (suc n)
      (record {
        number = i.before;
        from = zero-le;
        below = omega (arith, marked_le k i.before i.marked);
        passes = T_and (get_or (within linked held n k) i.before false) (linked i.before v) i.marked i.link;
      }))))

  -- and nothing else
  pub next_marked : (k v : ℕ) → Marked (suc k) v → Marked k v ⊎ Into k v
  unfolding further
  next_marked k v t = go (or_T (get_or (within linked held n k) v false) (held v && any from (range 0 (suc n))) (subst T (next_at k v (marked_le (suc k) v t)) t))
    where
      from : ℕ → Bool
      from a = get_or (within linked held n k) a false && linked a v

      go : Marked k v ⊎ T (held v && any from (range 0 (suc n))) → Marked k v ⊎ Into k v
      go (inl s) = inl s
      go (inr s) =
          let hs = and_T (held v) (any from (range 0 (suc n))) s in
          let r = any_range from 0 (suc n) hs.1 in
          let ts = and_T (get_or (within linked held n k) r.number false) (linked r.number v) r.passes in
          inr (record { before = r.number; marked = ts.0; link = ts.1; holds = hs.0 })

  -- ---- k rounds

  -- marks stay
  pub marked_later : (j k v : ℕ) → j ≤ k → Marked j v → Marked k v
  marked_later j zero v h t = subst (λ (x : ℕ). Marked x v) (omega arith) t
  marked_later j (suc k) v h t = go (dec_le j k) (λ s. marked_later j k v s t)
    where
      go : Dec (j ≤ k) → (j ≤ k → Marked k v) → Marked (suc k) v
      go (yes s) ih = marked_next k v (ih s)
      go (no s) ih = subst (λ (x : ℕ). Marked x v) (omega arith) t

  pub marked_chain : (k v : ℕ) → Marked k v → AtMost linked held k v
  marked_chain zero v t =
      record { links = 0; few = zero-le; chain = subst (Chain linked held 0) (sym (eqb→eq v 0 (subst T (start_at v (marked_le 0 v t)) t))) origin }
  marked_chain (suc k) v t = go (next_marked k v t) (λ a s. marked_chain k a s)
    where
      go : Marked k v ⊎ Into k v → ((a : ℕ) → Marked k a → AtMost linked held k a) → AtMost linked held (suc k) v
      go (inl s) ih = let r = ih v s in record { links = r.links; few = omega arith; chain = r.chain }
      go (inr i) ih = let r = ih i.before i.marked in record { links = suc r.links; few = suc-le-suc r.few; chain = step r.chain i.link i.holds }

  -- the other way, where links name only locations up to n: a link from or to another would lead to no mark
  module _ (named : (a b : ℕ) → T (linked a b) → (a ≤ n) × (b ≤ n)) where
    links_marked : {k v : ℕ} → Chain linked held k v → Marked k v
    links_marked origin = subst T (sym (start_at 0 zero-le)) tt
    links_marked (step {k = k} {a = a} {b = b} c l h) = step_next k b (named a b l).1 (record { before = a; marked = links_marked c; link = l; holds = h })

    pub chain_marked : (k v : ℕ) → AtMost linked held k v → Marked k v
    chain_marked k v r = marked_later r.links k v r.few (links_marked r.chain)
