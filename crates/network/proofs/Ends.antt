-- The endpoints' weights in an array and the row of the protected ones, once every endpoint is looked at. Assumes nothing.
use mathlib.Core.Path.{◌≡◌, sym, ap, ◌∙◌}
use mathlib.Core.Bool.{false, ◌&&◌}
use mathlib.Core.Logic.{⊎_elim}
use mathlib.Core.List.{List}
use Prim.Native.Nat.{ℕ, zero, suc, ◌≤◌, ◌<◌}
use native.Mathlib.Omega.{arith}
use borrow.Author.Tests.{lt-ltb}
use lib.Dec.{ltb}
use lib.ListN.{length, get_or}
use Rattle.lists.proofs.Picks.{item_inside}
use Rattle.lists.proofs.Storing.{Stored}
use Rattle.picture.specs.Picture.{Endpoint, Picture, endpoint_of}
use Rattle.picture.specs.Layout.{endpoints_max}
use Rattle.network.specs.Words.{weight_of}
use Rattle.network.specs.Rows.{EndpointsOf}
use Rattle.network.proofs.Making.{Above}

-- what is no endpoint's number has no weight, and is not protected
pub endpoint_inside : (p : Picture) (c : ℕ) → ¬ ((1 ≤ c) × (c ≤ length p.endpoints)) → endpoint_of p c ≡ record { weight = 0; protected = false }
unfolding endpoint_of
endpoint_inside p c n = ⊎_elim (λ i. absurd (n i)) (λ e. e) (item_inside p.endpoints c (record { weight = 0; protected = false }))

pub weight_outside : (p : Picture) (c : ℕ) → ¬ ((1 ≤ c) × (c ≤ length p.endpoints)) → weight_of p c ≡ 0
unfolding weight_of
weight_outside p c n = ap (λ (x : Endpoint). x.weight) (endpoint_inside p c n)

pub protected_outside : (p : Picture) (c : ℕ) → ¬ ((1 ≤ c) × (c ≤ length p.endpoints)) → (endpoint_of p c).protected ≡ false
protected_outside p c n = ap (λ (x : Endpoint). x.protected) (endpoint_inside p c n)

-- every endpoint was looked at
pub endpoints_looked : (p : Picture) (weights guarded : List ℕ) (c : ℕ) → c < 1 → Stored (suc endpoints_max) 0 (weight_of p) weights c
    → Above (λ u. (endpoint_of p u).protected) guarded c → EndpointsOf p weights guarded
endpoints_looked p weights guarded c z w s = record { many = w.many; weight = weight; protected = λ u. rw none at s.same u ∙ protected u }
  where
    none : c ≡ 0
    none = omega arith

    weight : (u : ℕ) → get_or weights u 0 ≡ weight_of p u
    weight zero = w.unseen 0 (omega arith) ∙ sym (weight_outside p 0 (λ i. absurd (omega (arith, i.0))))
    weight (suc i) = w.seen (suc i) (omega arith)

    protected : (u : ℕ) → (ltb 0 u && (endpoint_of p u).protected) ≡ (endpoint_of p u).protected
    protected zero = simp (protected_outside p 0 (λ i. absurd (omega (arith, i.0))))
    protected (suc i) = rw (lt-ltb 0 (suc i) (omega arith))
