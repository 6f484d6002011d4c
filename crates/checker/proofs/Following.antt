-- Following a forest: the slots, and then the links of what is in it. Assumes nothing.
use mathlib.Core.Path.{◌≡◌, sym, ◌∙◌, subst}
use mathlib.Core.Bool.{Bool, true, false, not, or_comm}
use mathlib.Core.Logic.{◌≢◌, inl, inr, ⊎_elim, by_cases}
use mathlib.Core.List.{List, []}
use Prim.Native.Nat.{ℕ, ◌+◌, ◌≤◌, ◌<◌}
use native.Mathlib.Omega.{arith}
use native.Mathlib.Decide.{ℕ_discrete}
use borrow.Author.Tests.{eq-eqb, ne_eqb}
use lib.Dec.{T, T_not, not_T, eqb, eqb→eq}
use lib.ListN.{length, get_or, replicate}
use Rattle.lists.proofs.Tests.{and_T, T_and, or_T, T-or-r}
use Rattle.rows.specs.Rows.{marked, linked_in, With, Minus, Meet}
use Rattle.rows.specs.declared.Range.{Range}
use Rattle.rows.specs.Ranges.{in_range, without}
use Rattle.rows.proofs.Ranges.{without_both, both_without, without_as}
use Rattle.graph.specs.declared.Node.{Node}
use Rattle.graph.specs.Kept.{node_of, In, NodeKept, outside, inside, ForestKept}
use Rattle.graph.specs.Held.{held_in}
use Rattle.graph.proofs.Keeping.{deep_slot}
use Rattle.network.proofs.Making.{Scanned, scanned_begun, scanned_hit, scanned_miss}
use Rattle.network.proofs.Slots.{scanned_all}
use Rattle.evidence.specs.Checks.{is_in, node_right}
use Rattle.evidence.proofs.Forests.{test_in, in_test, right_node, node_right_lem}

-- ---- the slots

-- a slot of depth above 0
abbrev pub deep : List Node → ℕ → Bool
deep es v = not (eqb (node_of es v).depth 0)

-- the slots below v keep their rules, and the row marks those of them that are in the forest
pub record Followed (table : List (List ℕ)) (held : ℕ → Bool) (es : List Node) (row : List ℕ) (v : ℕ) : Type 0 where
  pub right : (u : ℕ) → 1 ≤ u → u < v → node_right (linked_in table) held es u ≡ true
  pub scanned : Scanned (deep es) row v

module _ {table : List (List ℕ)} {held : ℕ → Bool} {es : List Node} where
  pub followed_begun : (n : ℕ) → Followed table held es (replicate n 0) 1
  followed_begun n = record { right = λ u l h. absurd (omega arith); scanned = scanned_begun (deep es) n }

  module _ {row : List ℕ} {v : ℕ} (l : 1 ≤ v) (f : Followed table held es row v) (r : node_right (linked_in table) held es v ≡ true) where
    more : (u : ℕ) → 1 ≤ u → u < v + 1 → node_right (linked_in table) held es u ≡ true
    more u s h = by_cases (ℕ_discrete u v) (λ e. rw e r) (λ n. f.right u s (omega arith))

    -- the slot at hand keeps its rule, and is in the forest or is not
    pub followed_in : {row' : List ℕ} → (node_of es v).depth ≢ 0 → With row v row' → Followed table held es row' (v + 1)
    followed_in d w = record { right = more; scanned = scanned_hit (deep es) _ _ v l f.scanned (rw (ne_eqb _ _ d)) w }

    pub followed_out : (node_of es v).depth ≡ 0 → Followed table held es row (v + 1)
    followed_out z = record { right = more; scanned = scanned_miss (deep es) _ v l f.scanned (rw (eq-eqb _ _ z)) }

-- the rule of a slot, where some slots are evicted and where none are
module _ {linked : ℕ → ℕ → Bool} (held : ℕ → Bool) (r : Range) {es : List Node} {v : ℕ} where
  kept_held : NodeKept linked (without r held) es v → NodeKept linked held es v
  kept_held (outside d p) = outside d p
  kept_held (inside d h i s l) = inside d (without_both r held v h).0 i s l

  kept_without : ((node_of es v).depth ≢ 0 → ¬ T (in_range r v)) → NodeKept linked held es v → NodeKept linked (without r held) es v
  kept_without n (outside d p) = outside d p
  kept_without n (inside d h i s l) = inside d (both_without r held v h (n d)) i s l

  -- an evicted slot is in no forest that keeps its rules
  kept_shallow : NodeKept linked (without r held) es v → T (in_range r v) → (node_of es v).depth ≡ 0
  kept_shallow (outside d p) t = d
  kept_shallow (inside d h i s l) t = absurd ((without_both r held v h).1 t)

-- a slot breaks its rule
pub node_broken : (linked : ℕ → ℕ → Bool) (held : ℕ → Bool) (r : Range) (es : List Node) {n v : ℕ} → 1 ≤ v → v ≤ n → node_right linked held es v ≡ false
    → ¬ ForestKept linked (without r held) n es
node_broken linked held r es {v = v} l m e k = subst T e (node_right_lem linked held es v (kept_held held r (k.nodes v l m)))

-- ---- the links

-- no link leads from a marked location below a to a location outside
pub record Closed (table : List (List ℕ)) (inner : List ℕ) (outer : ℕ → Bool) (a : ℕ) : Type 0 where
  pub shut : (u : ℕ) → u < a → T (marked inner u) → (w : ℕ) → T (linked_in table u w) → ¬ T (outer w)

module _ {table : List (List ℕ)} {inner : List ℕ} {outer : ℕ → Bool} where
  pub closed_begun : Closed table inner outer 0
  closed_begun = record { shut = λ u h. absurd (omega arith) }

  -- where nothing is outside, every location may count as looked at
  pub closed_none : {a : ℕ} → ((w : ℕ) → ¬ T (outer w)) → Closed table inner outer a
  closed_none none = record { shut = λ u h t w k. none w }

  module _ {a : ℕ} (c : Closed table inner outer a) where
    next : (T (marked inner a) → (w : ℕ) → T (linked_in table a w) → ¬ T (outer w)) → Closed table inner outer (a + 1)
    next h = record { shut = λ u s. by_cases (ℕ_discrete u a) (λ e. rw e h) (λ n. c.shut u (omega arith)) }

    -- the location at hand is not in the forest, or its row leads nowhere outside
    pub closed_out : marked inner a ≡ false → Closed table inner outer (a + 1)
    closed_out e = next (λ t. absurd (subst T e t))

    pub closed_apart : Meet (marked (get_or table a [])) outer false → Closed table inner outer (a + 1)
    unfolding linked_in
    closed_apart m = next (λ t w. m.apart tt w)

-- ---- the forest, whose slots were followed to the end

module _ {table : List (List ℕ)} (held : List ℕ) (r : Range) {es : List Node} {n v : ℕ} (len : length es ≡ n) {slots : List ℕ}
    (f : Followed table (held_in held) es slots v) (ended : n < v) where
  -- every slot of depth above 0 was seen, so these are what is marked
  slots_deep : (u : ℕ) → marked slots u ≡ deep es u
  slots_deep = scanned_all (deep es) slots v f.scanned (λ u t. let s = deep_slot es u (λ z. T_not (eqb (node_of es u).depth 0) t (rw z tt)) in (s.0, omega (arith, s.1)))

  -- an evicted slot is in the forest
  pub evicted_broken : (u : ℕ) → T (in_range r u) → T (marked slots u) → ¬ ForestKept (linked_in table) (without r (held_in held)) n es
  evicted_broken u i t k =
      let deep : (node_of es u).depth ≢ 0 = λ z. T_not (eqb (node_of es u).depth 0) (subst T (slots_deep u) t) (rw z tt) in
      let s = deep_slot es u deep in
      deep (kept_shallow (held_in held) r (k.nodes u s.0 (omega (arith, s.1))) i)

  module _ {inner outer : List ℕ} (w : With slots 0 inner) (m : Minus held inner outer) where
    -- the marks are what is in the forest
    pub inner_in : (u : ℕ) → marked inner u ≡ is_in es u
    unfolding is_in
    inner_in u = w.marks u ∙ rw (slots_deep u) (or_comm (deep es u) (eqb u 0))

    -- so none is above the slots
    pub inner_within : (u : ℕ) → T (marked inner u) → u ≤ n
    inner_within u t = ⊎_elim (λ z. omega arith) (λ d. omega (arith, (deep_slot es u d).1)) (test_in es u (subst T (inner_in u) t))

    -- and the other marks are what is held and not in it; so they are without a range
    outer_out : (u : ℕ) → T (without r (marked outer) u) → T (without r (held_in held) u) × ¬ In es u
    unfolding held_in
    outer_out u s =
        let o = without_both r (marked outer) u s in
        let a = and_T (marked held u) (not (marked inner u)) (subst T (m.marks u) o.0) in (
          both_without r (held_in held) u (T-or-r (eqb u 0) (marked held u) a.0) o.1,
          λ i. T_not (marked inner u) a.1 (subst T (sym (inner_in u)) (in_test es u i)),
        )

    out_outer : (u : ℕ) → T (without r (held_in held) u) → ¬ In es u → T (without r (marked outer) u)
    unfolding held_in
    out_outer u s o = without_as r (held_in held) (marked outer) u marks s
      where
        marks : T (held_in held u) → T (marked outer u)
        marks h =
            let l = ⊎_elim (λ z. absurd (o (inl (eqb→eq u 0 z)))) (λ t. t) (or_T (eqb u 0) (marked held u) h) in
            subst T (sym (m.marks u)) (T_and (marked held u) (not (marked inner u)) l (not_T (marked inner u) (λ q. o (test_in es u (subst T (inner_in u) q)))))

    -- a link leads out of the forest
    pub link_broken : (a : ℕ) → T (marked inner a) → Meet (marked (get_or table a [])) (without r (marked outer)) true → ¬ ForestKept (linked_in table) (without r (held_in held)) n es
    unfolding linked_in
    link_broken a i k q =
        let b = (k.common tt).0 in
        let o = outer_out b (k.common tt).2 in
        let slot : b ≢ 0 = λ z. o.1 (inl z) in
        let flat = by_cases (ℕ_discrete (node_of es b).depth 0) (λ z. z) (λ d. absurd (o.1 (inr d))) in
        q.closed a b (k.common tt).1 (test_in es a (subst T (inner_in a) i)) (omega arith) flat o.0

    -- none does, and no evicted slot is in it
    pub forest_kept : ((u : ℕ) → T (in_range r u) → ¬ T (marked slots u)) → ((a b : ℕ) → T (linked_in table a b) → a ≤ n) → {a : ℕ}
        → Closed table inner (without r (marked outer)) a → n < a → ForestKept (linked_in table) (without r (held_in held)) n es
    forest_kept apart low c g =
        record {
          nodes = λ u l h.
              kept_without (held_in held) r (λ d i. apart u i (subst T (sym (slots_deep u)) (rw (ne_eqb _ _ d) tt)))
              (right_node (linked_in table) (held_in held) es u (rw (f.right u l (omega arith)) tt));
          closed = λ a b j i l z h.
              let out = out_outer b h (⊎_elim (λ o. absurd (omega arith)) (λ d. d z)) in
              c.shut a (omega (arith, low a b j)) (subst T (sym (inner_in a)) (in_test es a i)) b j out;
        }
