-- `endpoint_rows` reads the endpoints' weights and marks the protected ones. Assumes nothing.
use mathlib.Core.Path.{◌≡◌, sym, ◌∙◌}
use native.Mathlib.Omega.{arith}
use Prim.Native.Nat.{suc, ◌-◌, ◌≤◌}
use lib.ListN.{set}
use Rattle.lists.proofs.Storing.{Stored, stored_begun, stored_next}
use Rattle.rows.specs.Rows.{row_words}
use Rattle.picture.specs.Picture.{picture_of, endpoint_of}
use Rattle.picture.proofs.Facts.{read_limited, read_endpoints_length}
use Rattle.picture.specs.Layout.{endpoints_max}
use Rattle.network.specs.Words.{weight_of}
use Rattle.network.proofs.Weights.{weight_small}
use Rattle.network.proofs.Making.{Above, above_begun, above_hit, above_miss}
use Rattle.network.proofs.Ends.{weight_outside, protected_outside, endpoints_looked}
use Rattle.network.proofs.endpoint_rows.Goals as goal
use Rattle.network.proofs.endpoint_rows.Goals.{After-is_protected-guarded, After-endpoint_weight-weight, At-loop-c, Joined-guarded, else-guarded, then-guarded}

-- what was read is the picture's
weight : (c : After-endpoint_weight-weight) → c.endpoint_weight-weight.result ≡ weight_of (picture_of c.args.p.now) c.loop-c.c
unfolding weight_of
weight c = c.endpoint_weight-weight.ensures

protected : (c : After-is_protected-guarded)
    → (endpoint_of (picture_of c.args.p.now) c.loop-c.c).protected ≡ c.is_protected-guarded.result
protected c = sym c.is_protected-guarded.ensures

-- the endpoint at hand is looked at: its weight is written, and it is marked if it is protected
looked : (c : Joined-guarded) → let p = picture_of c.args.p.now in
    Stored (suc endpoints_max) 0 (weight_of p) (set c.loop-c.weights c.loop-c.c c.endpoint_weight-weight.result) (c.loop-c.c - 1)
    × Above (λ u. (endpoint_of p u).protected) c.if-guarded.protected (c.loop-c.c - 1)
looked c =
    let l = c.loop-c in
    let some : 1 ≤ l.c = omega arith in
    let most : l.c ≤ endpoints_max = omega (arith, (read_limited _ _ c.header-c.ensures).counts.endpoints_most) in
    let told = protected (goal.at.Joined-guarded c).After-is_protected-guarded in (
      stored_next _ _ _ l.weights l.c some (omega arith) l.invariant.weighed (weight (goal.at.Joined-guarded c).After-endpoint_weight-weight),
      elim c.if-guarded.branch [
        | then-guarded w ↦ rw w.protected-is (above_hit _ _ _ l.c some l.invariant.protected (told ∙ w.if-guarded.true) w.add.ensures)
        | else-guarded w ↦ rw w.protected-is (above_miss _ _ l.c some l.invariant.protected (told ∙ w.if-guarded.false))
      ],
    )

pub loop-c-init : goal.loop-c-init
loop-c-init c =
    let p = picture_of c.args.p.now in
    let n = read_endpoints_length _ _ c.header-c.ensures in
    record {
      weighed = rw c.requires (stored_begun _ _ _ _ (λ u l. weight_outside p u (λ i. absurd (omega (arith, n, i.1)))));
      protected = above_begun (λ u. (endpoint_of p u).protected) row_words _ (λ u l. protected_outside p u (λ i. absurd (omega (arith, n, i.1))));
    }

pub overflow_cast-weights : goal.overflow_cast-weights
overflow_cast-weights c = omega (arith, weight (goal.at.overflow_cast-weights c).After-endpoint_weight-weight, weight_small c.args.p.now c.loop-c.c)

pub offset_bounds-weights-c : goal.offset_bounds-weights-c
offset_bounds-weights-c c = omega (arith, (read_limited _ _ c.header-c.ensures).counts.endpoints_most)

pub bounds-weights-c : goal.bounds-weights-c
bounds-weights-c c = omega (arith, (read_limited _ _ c.header-c.ensures).counts.endpoints_most)

pub add-requires : goal.add-requires
add-requires c = omega (arith, (read_limited _ _ c.header-c.ensures).counts.endpoints_most)

pub loop-c-preserved : goal.loop-c-preserved
loop-c-preserved c =
    let all = looked (goal.at.loop-c-preserved c).Joined-guarded in
    record { weighed = all.0; protected = all.1 }

pub returns : goal.returns
returns c = let i = c.loop-c.invariant in endpoints_looked _ _ _ c.loop-c.c (omega arith) i.weighed i.protected
