-- The forest that is computed: each node is the entry that chains say, and is in bounds. Assumes nothing.
use mathlib.Core.Path.{◌≡◌, refl, sym, ap, ◌∙◌, subst}
use mathlib.Core.Bool.{Bool, false, not, ◌&&◌}
use mathlib.Core.Logic.{◌⊎◌, inl, inr}
use mathlib.Core.List.{List, []}
use Prim.Native.Nat.{ℕ, suc, ◌+◌, ◌-◌, ◌≤◌, ◌<◌, zero-le}
use native.Mathlib.Omega.{arith}
use native.Mathlib.Decide.{dec_le}
use native.Mathlib.Numerals.{one-add}
use native.Mathlib.Nat.{zero-add}
use lib.Dec.{T, eqb, eqb→eq, T_not}
use lib.ListN.{length, get_or, length-map}
use Rattle.lists.specs.Lists.{range, on, lowest}
use Rattle.lists.proofs.Tests.{and_T, T_and, eq_T, either}
use Rattle.lists.proofs.Ranges.{length_range, get_d_map_range, range_any}
use Rattle.lists.proofs.Searches.{place_holds, place_first, lowest_holds, lowest_first, lowest_le}
use Rattle.lists.proofs.Faults.{on_pass, on_none, on_le}
use Rattle.graph.specs.Chains.{Chain, Reached, Fewest, Lowest, Entry, unreached, reached}
use Rattle.graph.specs.declared.Node.{Node}
use Rattle.graph.specs.Rounds.{within, reached_in, levels, depth_in, reached_by, node_in, forest}
use Rattle.graph.proofs.Chains.{chain_some, fewest_one, fewest_before}
use Rattle.graph.proofs.Marking.{Marked, marked_chain, chain_marked}
use Rattle.graph.proofs.Settling.{marked_reached, reached_marked}

module _ (linked : ℕ → ℕ → Bool) (held : ℕ → Bool) (n : ℕ) where
  -- short names: the marks of all rounds, and what is read from them. In says that the last round marks v
  abbrev Levels : List (List Bool)
  Levels = levels linked held n

  abbrev depth_of : ℕ → ℕ
  depth_of v = depth_in linked held n Levels v

  abbrev In : ℕ → Type 0
  In v = T (reached_by linked held n Levels v)

  abbrev node_of : ℕ → Node
  node_of v = node_in linked held n Levels v

  -- ---- the levels are the marks of the rounds

  pub level : (k : ℕ) → k ≤ n → get_or (levels linked held n) k [] ≡ within linked held n k
  unfolding levels
  level k h = get_d_map_range (within linked held n) [] 0 (suc n) k (omega arith) ∙ ap (within linked held n) (zero-add k)

  pub length_levels : length (levels linked held n) ≡ suc n
  unfolding levels
  length_levels = length-map (range 0 (suc n)) (within linked held n) ∙ length_range 0 (suc n)

  -- the depth of a location is the first round that marks it
  depth_first : (k v : ℕ) → k ≤ n → Marked linked held n k v → depth_of v ≤ k
  unfolding depth_in
  depth_first k v h t =
      place_first [] (λ (m : List Bool). get_or m v false) Levels k (omega (arith, length_levels)) (subst (λ (m : List Bool). T (get_or m v false)) (sym (level k h)) t)

  in-marked : (v : ℕ) → In v → Marked linked held n n v
  unfolding reached_by
  in-marked v t = subst (λ (m : List Bool). T (get_or m v false)) (level n (omega arith)) t

  in-depth : (v : ℕ) → In v → depth_of v ≤ n
  in-depth v t = depth_first n v (omega arith) (in-marked v t)

  depth_marked : (v : ℕ) → In v → Marked linked held n (depth_of v) v
  unfolding depth_in reached_by
  depth_marked v t =
      subst (λ (m : List Bool). T (get_or m v false)) (level (depth_of v) (in-depth v t)) (place_holds [] (λ (m : List Bool). get_or m v false) Levels n (omega (arith, length_levels)) t)

  in-reached : (v : ℕ) → In v → Reached linked held v
  in-reached v t = marked_reached linked held n v (unfold reached_in in in-marked v t)

  -- ---- the forest is its nodes

  pub length_forest : length (forest linked held n) ≡ n
  unfolding forest
  length_forest = length-map (range 1 n) (node_in linked held n Levels) ∙ length_range 1 n

  pub forest_at_lem : (d : Node) (i : ℕ) → i < n → get_or (forest linked held n) i d ≡ node_in linked held n (levels linked held n) (suc i)
  unfolding forest
  forest_at_lem d i h = get_d_map_range (node_in linked held n Levels) d 1 n i h ∙ ap (node_in linked held n Levels) (one-add i)

  -- the same by the slot
  pub forest_node : (d : Node) (v : ℕ) → 1 ≤ v → v ≤ n → get_or (forest linked held n) (v - 1) d ≡ node_in linked held n (levels linked held n) v
  forest_node d v h s = forest_at_lem d (v - 1) (omega arith) ∙ ap (node_in linked held n Levels) (omega arith)

  -- ---- the parent and the depth of a node, and their bounds

  -- a is marked, is one link nearer to the origin than v, and has a link to v
  nearer : ℕ → ℕ → Bool
  nearer v a = reached_by linked held n Levels a && eqb (depth_of a + 1) (depth_of v) && linked a v

  node_parent : (v : ℕ) → (node_of v).parent ≡ on (reached_by linked held n Levels v) (lowest (nearer v) (range 0 (suc n)))
  unfolding node_in nearer
  node_parent v = refl

  node_depth : (v : ℕ) → (node_of v).depth ≡ on (reached_by linked held n Levels v) (depth_of v)
  unfolding node_in
  node_depth v = refl

  pub parent_le : (v : ℕ) → (node_in linked held n (levels linked held n) v).parent ≤ n
  parent_le v = rw node_parent (on_le _ _ n (λ _. lowest_le (nearer v) 0 (suc n) n (omega arith)))

  pub depth_le : (v : ℕ) → (node_in linked held n (levels linked held n) v).depth ≤ n
  depth_le v = rw node_depth (on_le _ _ n (in-depth v))

  -- ---- entries

  module _ (named : (a b : ℕ) → T (linked a b) → (a ≤ n) × (b ≤ n)) where
    reached_in_lem : {v : ℕ} → Reached linked held v → In v
    unfolding reached_by reached_in
    reached_in_lem {v} r = subst (λ (m : List Bool). T (get_or m v false)) (sym (level n (omega arith))) (reached_marked linked held n named r)

    -- the depth is the fewest links
    pub depth_fewest : {v : ℕ} → Reached linked held v → Fewest linked held v (depth_in linked held n (levels linked held n) v)
    depth_fewest {v} r =
        let s = marked_chain linked held n (depth_of v) v (depth_marked v (reached_in_lem r)) in
        record { chain = subst (λ (k : ℕ). Chain linked held k v) (omega (arith, least s.links s.chain)) s.chain; fewest = least }
      where
        go : (j : ℕ) → Chain linked held j v → Dec (j ≤ n) → depth_of v ≤ j
        go j c (yes h) = depth_first j v h (chain_marked linked held n named j v (record { links = j; few = omega arith; chain = c }))
        go j c (no h) = omega (arith, in-depth v (reached_in_lem r))

        least : (j : ℕ) → Chain linked held j v → depth_of v ≤ j
        least j c = go j c (dec_le j n)

    -- what is nearer than v by a link to v is of the depth before that of v, and the other way
    module _ (v k : ℕ) (e : depth_in linked held n (levels linked held n) v ≡ suc k) where
      nearer_fewest : (a : ℕ) → T (nearer v a) → Fewest linked held a k × T (linked a v)
      unfolding nearer
      nearer_fewest a t =
          let s = and_T (reached_by linked held n Levels a && eqb (depth_of a + 1) (depth_of v)) (linked a v) t in
          let u = and_T (reached_by linked held n Levels a) (eqb (depth_of a + 1) (depth_of v)) s.0 in
          (subst (Fewest linked held a) (omega (arith, e, eqb→eq (depth_of a + 1) (depth_of v) u.1)) (depth_fewest (in-reached a u.0)), s.1)

      fewest_nearer : (a : ℕ) → Fewest linked held a k → T (linked a v) → T (nearer v a)
      unfolding nearer
      fewest_nearer a m l =
          let r : Reached linked held a = record { links = k; chain = m.chain } in
          T_and (reached_by linked held n Levels a && eqb (depth_of a + 1) (depth_of v)) (linked a v)
          (T_and (reached_by linked held n Levels a) (eqb (depth_of a + 1) (depth_of v)) (reached_in_lem r) (eq_T (depth_of a + 1) (depth_of v) (omega (arith, e, fewest_one (depth_fewest r) m))))
          l

      nearer_lowest : (a : ℕ) → Fewest linked held a k → T (linked a v) → Lowest linked held v k (lowest (nearer v) (range 0 (suc n)))
      nearer_lowest a m l =
          let some = range_any (nearer v) 0 (suc n) (record { number = a; from = zero-le; below = omega (arith, (named a v l).0); passes = fewest_nearer a m l }) in
          let p = nearer_fewest (lowest (nearer v) (range 0 (suc n))) (lowest_holds (nearer v) (range 0 (suc n)) some) in
          record {
            depth = p.0;
            link = p.1;
            lowest = λ u f s. lowest_first (nearer v) 0 (suc n) u zero-le (omega (arith, (named u v s).0)) (fewest_nearer u f s);
          }

    -- a location above n needs no other case: no link names it, so it is unreached
    pub node_entry : (v : ℕ) → 1 ≤ v → Entry linked held v (node_in linked held n (levels linked held n) v).parent (node_in linked held n (levels linked held n) v).depth
    node_entry v h = rw (node_parent, node_depth) (go (either (reached_by linked held n Levels v)))
      where
        go : In v ⊎ T (not (reached_by linked held n Levels v))
            → Entry linked held v (on (reached_by linked held n Levels v) (lowest (nearer v) (range 0 (suc n)))) (on (reached_by linked held n Levels v) (depth_of v))
        go (inl t) =
            let f = depth_fewest (in-reached v t) in
            let s = chain_some h f.chain in
            let b = fewest_before (rw s.1 at f) in
            simp (on_pass, t) (rw s.1 (reached (rw s.1 at f) (nearer_lowest v s.0 s.1 b.0 b.1 b.2)))
        go (inr t) = simp (on_none, t) (unreached (λ r. T_not (reached_by linked held n Levels v) t (reached_in_lem r)))

    pub forest_entry : (v : ℕ) → 1 ≤ v → v ≤ n
        → Entry linked held v (get_or (forest linked held n) (v - 1) (record { parent = 0; depth = 0 })).parent (get_or (forest linked held n) (v - 1) (record { parent = 0; depth = 0 })).depth
    forest_entry v h s = rw forest_node (node_entry v h)
