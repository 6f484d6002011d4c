-- Laws of chains: of fewest links, and of how many a chain of fewest links can have. Assumes nothing.
use mathlib.Core.Bool.{Bool}
use mathlib.Core.Logic.Dec
use mathlib.Core.Logic.{⊎_elim, by_cases}
use mathlib.Core.Path.{◌≡◌, refl}
use Prim.Native.Nat.{ℕ, zero, suc, ◌≤◌, ◌<◌, zero-le, suc-le-suc}
use native.Mathlib.Omega.{arith}
use native.Mathlib.Decide.{ℕ_discrete}
use native.Mathlib.Nat.{le_antisymm, le_of_suc-le-suc}
use lib.Dec.{T}
use Rattle.graph.specs.Chains.{Chain, Reached, Fewest}
use Rattle.graph.specs.Chains.Chain.{origin, step}
use Rattle.lists.proofs.Tests.{T?}
use Rattle.graph.proofs.Search.{search, least}
use Rattle.graph.proofs.Pigeons.{pigeons}

module _ {linked : ℕ → ℕ → Bool} {held : ℕ → Bool} where
  -- a chain of no links ends at the origin
  pub chain_none : {v : ℕ} → Chain linked held zero v → v ≡ 0
  chain_none origin = refl

  -- a slot that ends a chain is held
  pub chain_held : {k v : ℕ} → Chain linked held k v → 0 < v → T (held v)
  chain_held origin p = absurd (omega arith)
  chain_held (step c l h) p = h

  -- a chain to a slot has a link
  pub chain_some : {k v : ℕ} → 1 ≤ v → Chain linked held k v → (j : ℕ) × (k ≡ suc j)
  chain_some h origin = absurd (omega arith)
  chain_some h (step {k = k} c l s) = (k, refl)

  -- what a chain's last link leads from and to
  pub last_link : {k v : ℕ} → Chain linked held (suc k) v → (a : ℕ) × Chain linked held k a × T (linked a v) × T (held v)
  last_link (step {a = a} c l h) = (a, c, l, h)

  -- the depth of the origin is 0
  pub origin_fewest : Fewest linked held 0 0
  origin_fewest = record { chain = origin; fewest = λ j c. zero-le }

  -- the fewest links are one number
  pub fewest_one : {v j k : ℕ} → Fewest linked held v j → Fewest linked held v k → j ≡ k
  fewest_one {v} {j} {k} a b = le_antisymm (a.fewest k b.chain) (b.fewest j a.chain)

  -- up to its last link a chain of fewest links is one of fewest links: a shorter one would go on to its end
  pub last_fewest : {u v k : ℕ} → Fewest linked held v (suc k) → Chain linked held k u → T (linked u v) → T (held v) → Fewest linked held u k
  last_fewest f c l h = record { chain = c; fewest = λ j d. le_of_suc-le-suc (f.fewest (suc j) (step d l h)) }

  -- so it goes through a location whose fewest links are one fewer
  pub fewest_before : {v k : ℕ} → Fewest linked held v (suc k) → (u : ℕ) × Fewest linked held u k × T (linked u v)
  fewest_before f = let s = last_link f.chain in (s.0, last_fewest f s.1 s.2 s.3, s.2)

  -- every lower number of links is the fewest to some location
  pub fewest_below : (k : ℕ) {v : ℕ} → Fewest linked held v k → (i : ℕ) → i ≤ k → (u : ℕ) × Fewest linked held u i
  fewest_below zero {v} f i l = let e : i ≡ 0 = omega arith in (v, rw e f)
  fewest_below (suc k) {v} f i l =
      by_cases (ℕ_discrete i (suc k)) (λ e. (v, rw e f)) (λ ne. fewest_below k (fewest_before f).1 i (omega arith))

  module _ (n : ℕ) (bound : (v : ℕ) → T (held v) → v ≤ n) where
    -- a chain ends at a location from 0 to n
    pub chain_within : {k v : ℕ} → Chain linked held k v → v ≤ n
    chain_within origin = zero-le
    chain_within (step {b = b} c l h) = bound b h

    -- among the locations 0 to n the fewest links are at most n: no two of a chain of fewest links are the same
    pub fewest_within : {v k : ℕ} → Fewest linked held v k → k ≤ n
    fewest_within {v} {k} f =
        le_of_suc-le-suc
        (pigeons (suc n) (suc k) (λ i x. Fewest linked held x i)
        (λ i l. let b = fewest_below k f i (le_of_suc-le-suc l) in (b.0, suc-le-suc (chain_within b.1.chain), b.1))
        (λ i j x li lj p q. fewest_one p q))

    -- whether there is a chain of k links can be decided
    pub chain? : (k v : ℕ) → Dec (Chain linked held k v)
    chain? zero v = by_cases (ℕ_discrete v 0) (λ e. yes (rw e origin)) (λ ne. no (λ c. ne (chain_none c)))
    chain? (suc k) v =
        ⊎_elim
        (λ none. no (λ c. let s = last_link c in none s.0 (suc-le-suc (chain_within s.1)) (s.1, (s.2, s.3))))
        (λ m. yes (step m.1.holds.0 m.1.holds.1.0 m.1.holds.1.1))
        (search
        (λ a. Chain linked held k a × (T (linked a v) × T (held v)))
        (λ a. Dec.and (chain? k a) (Dec.and (T? (linked a v)) (T? (held v))))
        (suc n))

    -- a reached location has a fewest number of links
    pub reached_fewest : {v : ℕ} → Reached linked held v → (k : ℕ) × Fewest linked held v k
    reached_fewest {v} r =
        let m = least (λ k. Chain linked held k v) (λ k. chain? k v) r.links r.chain in
        (m.0, record { chain = m.1.holds; fewest = m.1.least })
