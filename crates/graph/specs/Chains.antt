-- Chains of links, what they reach, and the forest of fewest links. Document 01, "Words" and "Choosing". Assumes nothing.
use Rattle.std.specs.Prelude.{Bool, ℕ, zero, suc, ◌≤◌, T}

module _ (linked : ℕ → ℕ → Bool) (held : ℕ → Bool) where
  -- 01: a chain, of k links, that ends at a location. It starts at location 0, the origin (01: the office); each step is a link,
  -- and each location that is stepped to is held
  pub data Chain : ℕ → ℕ → Type 0 where
    origin : Chain zero zero
    step : {k a b : ℕ} → Chain k a → T (linked a b) → T (held b) → Chain (suc k) b

  -- 01: a location is reached if it ends a chain
  pub record Reached (v : ℕ) : Type 0 where
    pub links : ℕ
    pub chain : Chain links v

  -- 01: the fewest links from the origin to v are k
  pub record Fewest (v k : ℕ) : Type 0 where
    pub chain : Chain k v
    pub fewest : (j : ℕ) → Chain j v → k ≤ j

  -- 01: p is the lowest location of depth k with a link to v
  pub record Lowest (v k p : ℕ) : Type 0 where
    pub depth : Fewest p k
    pub link : T (linked p v)
    pub lowest : (u : ℕ) → Fewest u k → T (linked u v) → p ≤ u

  -- 01: an entry of a forest: the parent and the depth of a slot. Unreached is 0 and 0
  pub data Entry (v : ℕ) : ℕ → ℕ → Type 0 where
    unreached : ¬ Reached v → Entry v zero zero
    reached : {p k : ℕ} → Fewest v (suc k) → Lowest v k p → Entry v p (suc k)
