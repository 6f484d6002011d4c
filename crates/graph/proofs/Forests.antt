-- There is only one forest. Assumes nothing.
use mathlib.Core.Bool.{Bool}
use mathlib.Core.Path.{◌≡◌, refl, subst}
use Prim.Native.Nat.{ℕ}
use native.Mathlib.Omega.{arith}
use native.Mathlib.Nat.{suc_inj}
use Rattle.graph.specs.Chains.{Reached, Fewest, Lowest, Entry}
use Rattle.graph.specs.Chains.Entry.{unreached, reached}
use Rattle.graph.proofs.Chains.{fewest_one}

module _ {linked : ℕ → ℕ → Bool} {held : ℕ → Bool} where
  -- what has a depth is reached
  pub fewest_reached : {v k : ℕ} → Fewest linked held v k → Reached linked held v
  fewest_reached {v} {k} f = record { links = k; chain = f.chain }

  -- a slot has one parent
  pub lowest_one : {v k p q : ℕ} → Lowest linked held v k p → Lowest linked held v k q → p ≡ q
  lowest_one {v} {k} {p} {q} a b = omega (arith, a.lowest q b.depth b.link, b.lowest p a.depth a.link)

  -- an entry of the forest is determined by its slot
  pub entry_one : {v p q d e : ℕ} → Entry linked held v p d → Entry linked held v q e → (p ≡ q) × (d ≡ e)
  entry_one (unreached a) (unreached b) = (refl, refl)
  entry_one (unreached a) (reached f l) = absurd (a (fewest_reached f))
  entry_one (reached f l) (unreached b) = absurd (b (fewest_reached f))
  entry_one {v} {p} (reached f l) (reached g m) =
      let e = fewest_one f g in
      (lowest_one (subst (λ j. Lowest linked held v j p) (suc_inj e) l) m, e)
