-- Evicting a block takes its loss from the served weight, and nothing else. Assumes nothing.
use mathlib.Core.Path.{◌≡◌}
use mathlib.Core.Bool.{Bool, not}
use Prim.Native.Nat.{ℕ, ◌+◌}
use lib.Dec.{T}
use Rattle.lists.proofs.Tests.{and_T}
use Rattle.graph.specs.Chains.{Chain}
use Rattle.graph.specs.Chains.Chain.{origin, step}
use Rattle.picture.specs.Picture.{Picture}
use Rattle.network.specs.Words.{in_block, is_held, without_block, held_without, weight_of, Served, Named}
use Rattle.network.specs.Tests.{marks, served, cut, sum_where, served_weight, weighed}
use Rattle.network.proofs.Service.{marked_served, served_marked}
use Rattle.network.proofs.Weights.{where_split}

-- ---- what fewer held locations serve, more do

module _ {less more : ℕ → Bool} (implies : (v : ℕ) → T (less v) → T (more v)) where
  pub chain_more : {linked : ℕ → ℕ → Bool} {k v : ℕ} → Chain linked less k v → Chain linked more k v
  chain_more origin = origin
  chain_more (step {b = b} c l h) = step (chain_more c) l (implies b h)

  pub served_more : {p : Picture} {c : ℕ} → Served p less c → Served p more c
  served_more s =
      record {
        location = s.location;
        serves = s.serves;
        reached = record { links = s.reached.links; chain = chain_more s.reached.chain };
      }

-- ---- a block's loss

-- what is held without a block is held with it
pub without_held : (p : Picture) (b v : ℕ) → T (held_without p b v) → T (is_held p v)
unfolding without_block
without_held p b v t = (and_T (is_held p v) (not (in_block p b v)) t).0

-- so what is served now is what is served without the block, and what the block cuts
pub loss_off : {p : Picture} → Named p → (b : ℕ) → sum_where p (weight_of p) (served p (marks p (held_without p b))) + (weighed p b).loss ≡ served_weight p
unfolding served_weight weighed cut
loss_off {p} n b =
    where_split p (weight_of p) (served p (marks p (is_held p))) (served p (marks p (held_without p b)))
    (λ c t. served_marked n (served_more (without_held p b) (marked_served p (held_without p b) c t)))
