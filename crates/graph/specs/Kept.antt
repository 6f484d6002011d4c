-- The rules that a forest from anywhere has to keep. Document 01, "Checking and evicting": "each entry with depth 0 has parent 0; each
-- other slot is held and not evicted there, its parent is the office or a slot of depth above 0, the parent's depth is one less, and a link
-- leads from parent to slot; no link leaves the office or a slot of depth above 0 for a slot of depth 0 that is held and not evicted there".
-- `held` says of a slot that it is held and not evicted there. Assumes nothing.
use Rattle.std.specs.Prelude.{Bool, ◌⊎◌, ◌≢◌, List, ◌≡◌, ℕ, ◌+◌, ◌≤◌, T}
use Rattle.lists.specs.Lists.{item}
use Rattle.graph.specs.declared.Node.{Node}

-- slot v's node, counted from 1; the origin and what is no slot have parent 0 and depth 0
unfoldable pub node_of : List Node → ℕ → Node
node_of es v = item es v (record { parent = 0; depth = 0 })

-- the origin, or a slot of depth above 0
abbrev pub In : List Node → ℕ → Type 0
In es v = (v ≡ 0) ⊎ ((node_of es v).depth ≢ 0)

-- the rule of a slot's entry
pub data NodeKept (linked : ℕ → ℕ → Bool) (held : ℕ → Bool) (es : List Node) (v : ℕ) : Type 0 where
  outside : (node_of es v).depth ≡ 0 → (node_of es v).parent ≡ 0 → NodeKept linked held es v
  inside : (node_of es v).depth ≢ 0 → T (held v) → In es (node_of es v).parent → (node_of es (node_of es v).parent).depth + 1 ≡ (node_of es v).depth → T (linked (node_of es v).parent v)
      → NodeKept linked held es v

-- a forest for the slots 1 to n that keeps the rules
pub record ForestKept (linked : ℕ → ℕ → Bool) (held : ℕ → Bool) (n : ℕ) (es : List Node) : Type 0 where
  pub nodes : (v : ℕ) → 1 ≤ v → v ≤ n → NodeKept linked held es v
  pub closed : (a b : ℕ) → T (linked a b) → In es a → 1 ≤ b → (node_of es b).depth ≡ 0 → ¬ T (held b)
