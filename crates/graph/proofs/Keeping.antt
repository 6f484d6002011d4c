-- The rules of a forest: one that keeps them has in it exactly what chains reach, and the computed forest keeps them. Assumes nothing.
use mathlib.Core.Path.{◌≡◌, refl, sym, ap, ◌∙◌}
use mathlib.Core.Bool.{Bool}
use mathlib.Core.Logic.{inl, inr, ◌≢◌, ◌↔◌, ⊎_elim, by_cases}
use mathlib.Core.List.{List}
use Prim.Native.Nat.{ℕ, zero, suc, ◌≤◌, ◌<◌, zero-le, suc-le-suc}
use native.Mathlib.Omega.{arith}
use native.Mathlib.Decide.{dec_lt, ℕ_discrete}
use native.Mathlib.Nat.{suc-ne-zero}
use lib.Dec.{T}
use lib.ListN.{length, get_or-eq_default}
use lib.Seq.{ext_get_or}
use Rattle.lists.specs.Lists.{item}
use Rattle.graph.specs.Chains.{Chain, origin, step, Reached, Fewest, Entry, unreached, reached}
use Rattle.graph.specs.declared.Node.{Node}
use Rattle.graph.specs.Rounds.{forest}
use Rattle.graph.specs.Kept.{node_of, In, NodeKept, outside, inside, ForestKept}
use Rattle.graph.proofs.Chains.{chain_none, chain_some, chain_held, last_link, origin_fewest, fewest_one}
use Rattle.graph.proofs.Forests.{fewest_reached, entry_one}
use Rattle.graph.proofs.Nodes.{length_forest, forest_at_lem, node_entry}

-- ---- nodes and their slots

-- whether a location is in a forest can be decided
pub in? : (es : List Node) (v : ℕ) → Dec (In es v)
in? es v =
    by_cases
    (ℕ_discrete v 0)
    (λ z. yes (inl z))
    (λ slot. by_cases (ℕ_discrete (node_of es v).depth 0) (λ z. no (⊎_elim slot (λ deep. deep z))) (λ deep. yes (inr deep)))

-- above the slots of a forest there are no nodes
pub node_above : (es : List Node) (v : ℕ) → length es < v → node_of es v ≡ record { parent = 0; depth = 0 }
unfolding node_of item
node_above es zero h = refl
node_above es (suc i) h = get_or-eq_default es (record { parent = 0; depth = 0 }) (omega arith)

-- so what has a depth is a slot
pub deep_slot : (es : List Node) (v : ℕ) → (node_of es v).depth ≢ 0 → (1 ≤ v) × (v ≤ length es)
unfolding node_of item
deep_slot es zero deep = absurd (deep refl)
deep_slot es (suc i) deep =
    by_cases (dec_lt i (length es)) (λ h. (suc-le-suc zero-le, h)) (λ h. absurd (deep (ap (λ (x : Node). x.depth) (node_above es (suc i) (omega arith)))))

-- ---- a forest that keeps the rules

module _ {linked : ℕ → ℕ → Bool} {held : ℕ → Bool} {n : ℕ} {es : List Node} (kept : ForestKept linked held n es) where
  -- what a chain reaches is in the forest: it starts at the origin, and no link leads out of the forest to a slot that is held
  chain_in : {k v : ℕ} → Chain linked held k v → In es v
  chain_in origin = inl refl
  chain_in (step {a = a} {b = b} c l h) =
      let before = chain_in c in
      by_cases (ℕ_discrete b 0) (λ z. inl z) (λ slot. inr (λ z. kept.closed a b l before (omega arith) z h))

  pub reached_kept : {v : ℕ} → Reached linked held v → In es v
  reached_kept r = chain_in r.chain

  module _ (len : length es ≡ n) where
    -- up from parent to parent each depth is one less, so the origin is met after as many links as the depth says
    chain_up : (d v : ℕ) → (node_of es v).depth ≡ d → In es v → Chain linked held d v
    chain_up zero v e (inl z) = rw z origin
    chain_up zero v e (inr deep) = absurd (deep e)
    chain_up (suc d) v e i =
        let s = deep_slot es v (λ z. omega arith) in
        go (kept.nodes v s.0 (omega arith)) (λ u q j. chain_up d u q j)
      where
        go : NodeKept linked held es v → ((u : ℕ) → (node_of es u).depth ≡ d → In es u → Chain linked held d u) → Chain linked held (suc d) v
        go (outside z p) ih = absurd (omega arith)
        go (inside deep h i q l) ih = step (ih (node_of es v).parent (omega arith) i) l h

    -- a location in the forest ends a chain of as many links as its depth says
    pub kept_chain : (v : ℕ) → In es v → Chain linked held (node_of es v).depth v
    kept_chain v i = chain_up (node_of es v).depth v refl i

    pub kept_reached : (v : ℕ) → In es v → Reached linked held v
    kept_reached v i = record { links = (node_of es v).depth; chain = kept_chain v i }

-- ---- entries

module _ {linked : ℕ → ℕ → Bool} {held : ℕ → Bool} where
  -- the depth of an entry is 0 exactly where the slot is not reached
  entry_zero : {v p d : ℕ} → Entry linked held v p d → (d ≡ 0) ↔ (¬ Reached linked held v)
  entry_zero (unreached r) = (λ z. r, λ _. refl)
  entry_zero (reached f l) = (λ z. absurd (omega arith), λ r. absurd (r (fewest_reached f)))

  entry_deep : {v p d : ℕ} → Entry linked held v p d → d ≢ 0 → Reached linked held v
  entry_deep (unreached r) deep = absurd (deep refl)
  entry_deep (reached f l) deep = fewest_reached f

  -- and where it is reached, the fewest links
  entry_fewest : {v p d k : ℕ} → Entry linked held v p d → Fewest linked held v k → d ≡ k
  entry_fewest (unreached r) m = absurd (r (fewest_reached m))
  entry_fewest (reached f l) m = fewest_one f m

module _ (linked : ℕ → ℕ → Bool) (held : ℕ → Bool) (n : ℕ) (named : (a b : ℕ) → T (linked a b) → (a ≤ n) × (b ≤ n)) where
  -- ---- a forest whose nodes are the entries of chains keeps the rules

  module _ (es : List Node) (len : length es ≡ n) (entries : (v : ℕ) → 1 ≤ v → v ≤ n → Entry linked held v (node_of es v).parent (node_of es v).depth) where
    -- the depths are the fewest links, the origin's too. Links name no slot above n, so a slot that ends a chain has an entry
    node_fewest : (v k : ℕ) → Fewest linked held v k → (node_of es v).depth ≡ k
    unfolding node_of item
    node_fewest zero k m = fewest_one origin_fewest m
    node_fewest (suc i) k m =
        let h : 1 ≤ suc i = suc-le-suc zero-le in
        let s = chain_some h m.chain in
        let l = last_link (rw s.1 at m.chain) in
        entry_fewest (entries (suc i) h (named l.0 (suc i) l.2).1) m

    -- so what chains reach is in the forest, and what is in it they reach
    fewest_in : (v k : ℕ) → Fewest linked held v k → In es v
    fewest_in v zero m = inl (chain_none m.chain)
    fewest_in v (suc k) m = inr (λ z. suc-ne-zero k (sym (node_fewest v (suc k) m) ∙ z))

    in-reached : (v : ℕ) → In es v → Reached linked held v
    in-reached v (inl z) = rw z (fewest_reached origin_fewest)
    in-reached v (inr deep) = let s = deep_slot es v deep in entry_deep (entries v s.0 (omega arith)) deep

    -- the parent and the depth are variables here, so that the two kinds of entry can be told apart
    entry_kept : (v p d : ℕ) → 1 ≤ v → (node_of es v).parent ≡ p → (node_of es v).depth ≡ d → Entry linked held v p d → NodeKept linked held es v
    entry_kept v p d h ep ed (unreached r) = outside ed ep
    entry_kept v p d h ep ed (reached {k = k} f l) =
        inside (λ z. omega arith) (chain_held f.chain h) (rw ep (fewest_in p k l.depth)) (rw ep (omega (arith, node_fewest p k l.depth))) (rw ep l.link)

    entries_kept : ForestKept linked held n es
    entries_kept =
        record {
          nodes = λ v h s. entry_kept v (node_of es v).parent (node_of es v).depth h refl refl (entries v h s);
          closed = λ a b l i h z t.
              let r = in-reached a i in
              (entry_zero (entries b h (named a b l).1)).0 z (record { links = suc r.links; chain = step r.chain l t });
        }

  -- ---- the computed forest

  -- its nodes are the entries of chains
  pub computed_entry : (v : ℕ) → 1 ≤ v → v ≤ n → Entry linked held v (node_of (forest linked held n) v).parent (node_of (forest linked held n) v).depth
  unfolding node_of item
  computed_entry zero h s = absurd (omega arith)
  computed_entry (suc i) h s = rw forest_at_lem (node_entry linked held n named (suc i) h)

  -- so it keeps the rules
  pub forest_kept : ForestKept linked held n (forest linked held n)
  forest_kept = entries_kept (forest linked held n) (length_forest linked held n) computed_entry

  -- and it is the only list of the entries of chains
  pub entries_same : (es : List Node) → length es ≡ n → ((v : ℕ) → 1 ≤ v → v ≤ n → Entry linked held v (node_of es v).parent (node_of es v).depth) → es ≡ forest linked held n
  unfolding node_of item
  entries_same es len entries =
      ext_get_or (record { parent = 0; depth = 0 }) es (forest linked held n) (len ∙ sym (length_forest linked held n))
      (λ i h.
      let s : suc i ≤ n = omega arith in
      let e = entry_one (entries (suc i) (suc-le-suc zero-le) s) (computed_entry (suc i) (suc-le-suc zero-le) s) in
      λ j. record { parent = e.0 j; depth = e.1 j })
