-- The test of a forest says what the rules of a forest say. Assumes nothing.
use mathlib.Core.Path.{◌≡◌, refl}
use mathlib.Core.Bool.{Bool}
use mathlib.Core.Logic.{by_cases}
use mathlib.Core.List.{List}
use Prim.Native.Nat.{ℕ, ◌≤◌}
use native.Mathlib.Omega.{arith}
use native.Mathlib.Decide.{ℕ_discrete}
use borrow.Author.Tests.{eq-eqb}
use lib.Dec.{T, not_T}
use lib.ListN.{get_or}
use Rattle.lists.specs.Lists.{range, all}
use Rattle.lists.proofs.Tests.{and_T, T_and, true_T, is_true, all_at}
use Rattle.graph.specs.declared.Node.{Node}
use Rattle.graph.specs.Kept.{node_of, In, NodeKept, outside, inside, ForestKept}
use Rattle.picture.specs.declared.Link.{Link}
use Rattle.picture.specs.Picture.{Picture}
use Rattle.picture.specs.Rules.{no_link}
use Rattle.network.specs.Words.{slot_count, joins}
use Rattle.network.proofs.Named.{joins_at, at_joins}
use Rattle.evidence.specs.Checks.{is_in, node_right, link_right, forest_right}
use Rattle.lists.proofs.Every.{at_all, all_range, range_all}

-- ---- what is in a forest

module _ (xs : List Node) (v : ℕ) where
  pub test_in : T (is_in xs v) → In xs v
  unfolding is_in
  test_in t = let e = is_true _ t in grind arith

  pub in_test : In xs v → T (is_in xs v)
  unfolding is_in
  in_test i = true_T (grind arith)

-- ---- the rule of a node, and that of a link

module _ (linked : ℕ → ℕ → Bool) (held : ℕ → Bool) (xs : List Node) where
  pub right_node : (v : ℕ) → T (node_right linked held xs v) → NodeKept linked held xs v
  unfolding node_right
  right_node v t = by_cases (ℕ_discrete (node_of xs v).depth 0) (λ z. outside z (grind (arith, is_true _ t)))
      (λ d.
      let e = is_true _ t in
      inside d (true_T (grind arith)) (test_in xs (node_of xs v).parent (true_T (grind arith))) (grind arith) (true_T (grind arith)))

  pub node_right_lem : (v : ℕ) → NodeKept linked held xs v → T (node_right linked held xs v)
  unfolding node_right
  node_right_lem v (outside z o) = rw (eq-eqb _ _ z, eq-eqb _ _ o) tt
  node_right_lem v (inside d h i e l) = true_T (grind (arith, is_true _ h, is_true _ (in_test xs _ i), is_true _ l))

module _ (held : ℕ → Bool) (xs : List Node) where
  pub right_link : (l : Link) → T (link_right held xs l) → In xs l.from → 1 ≤ l.to → (node_of xs l.to).depth ≡ 0 → ¬ T (held l.to)
  unfolding link_right is_in
  right_link l t i s z h = let e = is_true _ t in absurd (grind (arith, is_true _ h, is_true _ (in_test xs l.from i)))

  pub link_right_lem : (l : Link) → (In xs l.from → 1 ≤ l.to → (node_of xs l.to).depth ≡ 0 → ¬ T (held l.to)) → T (link_right held xs l)
  unfolding link_right is_in
  link_right_lem l k =
      not_T _ (λ t. let e = is_true _ t in k (test_in xs l.from (true_T (grind arith))) (grind arith) (grind arith) (true_T (grind arith)))

-- ---- the forest

module _ (p : Picture) (held : ℕ → Bool) (xs : List Node) where
  pub right_kept : T (forest_right p held xs) → ForestKept (joins p.links) held (slot_count p) xs
  unfolding forest_right
  right_kept t =
      let s = and_T (all (node_right (joins p.links) held xs) (range 1 (slot_count p))) (all (link_right held xs) p.links) t in
      record {
        nodes = λ v l m. right_node (joins p.links) held xs v (all_range (node_right (joins p.links) held xs) 1 (slot_count p) s.0 v l (omega arith));
        closed = λ a b j.
            let r = joins_at p.links a b j in
            let k = right_link held xs (get_or p.links r.at no_link) (all_at (link_right held xs) p.links s.1 r.at r.within no_link) in
            rw (r.from, r.to) at k;
      }

  pub kept_right : ForestKept (joins p.links) held (slot_count p) xs → T (forest_right p held xs)
  unfolding forest_right
  kept_right k =
      T_and (all (node_right (joins p.links) held xs) (range 1 (slot_count p))) (all (link_right held xs) p.links)
      (range_all (node_right (joins p.links) held xs) 1 (slot_count p) (λ v l m. node_right_lem (joins p.links) held xs v (k.nodes v l (omega arith))))
      (at_all no_link (link_right held xs) p.links
      (λ i h. link_right_lem held xs (get_or p.links i no_link) (k.closed _ _ (at_joins (record { at = i; within = h; from = refl; to = refl })))))
