-- `judge_parts` goes over the parts of evidence up to the first fault. Assumes nothing.
use borrow.Author.Rules.{rules}
use mathlib.Core.Path.{refl, sym, ap, ◌∙◌, subst}
use mathlib.Core.Logic.{inl, inr}
use Prim.Native.Nat.{ℕ, ◌+◌, ◌/◌}
use native.Mathlib.Omega.{arith}
use lib.Dec.{T}
use lib.ListN.{length}
use Rattle.lists.proofs.Tests.{true_T}
use Rattle.rows.specs.Rows.{row_words}
use Rattle.rows.proofs.Marks.{less_narrow}
use Rattle.rows.proofs.Ranges.{without_both, in_range_any}
use Rattle.picture.specs.Refusals.{fault_of}
use Rattle.weigh.proofs.Serving.{sums_ready}
use Rattle.checker.proofs.Following.{followed_begun, closed_begun, closed_none, closed_out, closed_apart}
use Rattle.checker.proofs.Going.{Given, given, Sides, sides_whole, sides_less, tables_made, table_limited, held_narrow, counted_begun, counted_ended, gone_begun, gone_ended}
use Rattle.checker.proofs.Going.{AllSeen, AllShut, part_begun, part_node, part_seen, part_evicted, part_link, outer_narrow, part_narrow, part_counted, part_stated, part_gone}
use Rattle.checker.proofs.forests.judge_parts.Invariants.{Parts}
use Rattle.checker.proofs.forests.judge_parts.Goals as goal
use Rattle.checker.proofs.forests.judge_parts.Goals.{After-words_for-words, After-marks_any, Joined-k-eq0, Joined-k-ne0}
use Rattle.checker.proofs.forests.judge_parts.Goals.{then-x-ne0, else-x-ne0, then-meet_unevicted, else-meet_unevicted, then-k-eq0, else-k-eq0, then-k-ne0, else-k-ne0}
use Rattle.checker.proofs.forests.judge_parts.Goals.{else-loop-a-test, then-loop-a-test+else-has+else-a-n}
use Rattle.checker.proofs.forests.judge_parts.Goals.{else-has-via-then-has+else-leads_out, else-has-via-else-has}

-- what the code has at hand
abbrev hand : After-words_for-words → Given
hand c =
    let a = c.args in
    given a.p.now a.ev.now a.held c.header-h.result (length a.cuts.now) c.words_for-words.result c.fill.new.self

pub check-init : goal.check-init
check-init c =
    let given = c.requires in
    let p = given.read in
    let t = tables_made c.header-h.ensures p.0 p.1 given.cuts_len c.words_for-words.ensures c.fill.ensures in
    record { none = refl; gone = gone_begun t; counted = counted_begun refl }

pub forest_at-at-requires : goal.forest_at-at-requires
forest_at-at-requires c = let t = c.check.invariant.gone.ready in (table_limited t, omega (arith, t.few_parts, c.check-test.true))

pub evicted_in-evicted-requires : goal.evicted_in-evicted-requires
evicted_in-evicted-requires c =
    let t = c.check.invariant.gone.ready in
    (table_limited t, omega (arith, t.few_parts, c.check-test.true), λ l. t.room _ l c.check-test.true)

-- ---- the slots

pub loop-v-init : goal.loop-v-init
loop-v-init c =
    let i = c.check.invariant in
    let part = part_begun i.gone c.check-test.true (ap (λ (q : ℕ). q / 8) c.forest_at-at.ensures) c.evicted_in-evicted.ensures in
    record { some = omega arith; none = i.none; part = part; seen = followed_begun row_words }

pub node_at-x-requires : goal.node_at-x-requires
node_at-x-requires c = let i = c.loop-v.invariant in (table_limited i.part.gone.ready, omega arith, omega arith, i.part.room)

pub node_right-requires-clause-links_len : goal.node_right-requires-clause-links_len
node_right-requires-clause-links_len c =
    let i = c.loop-v.invariant in
    let t = i.part.gone.ready in
    (t.made.links.many, omega arith, omega arith, table_limited t, i.part.room)

pub loop-v-preserved : goal.loop-v-preserved
loop-v-preserved c =
    let i = c.loop-v.invariant in
    record {
      some = omega arith;
      none = i.none;
      part = i.part;
      seen =
          part_seen i.part (omega arith) (omega arith) i.seen c.node_at-x.ensures (sym c.node_right.ensures ∙ c.if-not-node_right.false)
          (elim c.if-x-ne0.branch [ then-x-ne0 w ↦ inl (w.if-x-ne0.true, rw w.slots-is w.add.ensures) | else-x-ne0 w ↦ inr (w.if-x-ne0.false, w.slots-is) ]);
    }

-- every slot was looked at
all_seen : (c : After-marks_any) → AllSeen (hand (goal.at.After-marks_any c).After-words_for-words) (c.forest_at-at.result / 8) c.loop-v.slots
all_seen c = record { v = c.loop-v.v; followed = c.loop-v.invariant.seen; ended = omega arith }

pub minus-outside-requires : goal.minus-outside-requires
minus-outside-requires c = held_narrow c.loop-v.invariant.part.gone.ready

pub meet_unevicted-requires : goal.meet_unevicted-requires
meet_unevicted-requires c = (search rules, less_narrow (held_narrow c.loop-v.invariant.part.gone.ready) c.minus-outside.ensures)

-- ---- the links

pub loop-a-init : goal.loop-a-init
loop-a-init c =
    let i = c.loop-v.invariant in
    record {
      none = i.none;
      inside =
          record {
            at = _;
            slots = _;
            part = i.part;
            with = c.add-in-check.ensures;
            minus = c.minus-outside.ensures;
            seen = all_seen (goal.at.loop-a-init c).After-marks_any;
            apart = λ u r s. subst T (sym c.marks_any.ensures ∙ c.if-marks_any.false) (in_range_any _ _ u r s);
          };
      shut =
          elim c.if-meet_unevicted.branch [
            | then-meet_unevicted w ↦ rw w.first-is closed_begun
            | else-meet_unevicted w ↦
                let none = rw w.if-meet_unevicted.false at c.meet_unevicted.ensures in closed_none (λ u s. none.apart tt u (without_both _ _ u s).0 s)
          ];
    }

pub leads_out-requires : goal.leads_out-requires
leads_out-requires c = (search rules, outer_narrow c.loop-a.invariant.inside)

pub loop-a-preserved : goal.loop-a-preserved
loop-a-preserved c =
    let i = c.loop-a.invariant in
    record {
      none = i.none;
      inside = i.inside;
      shut = elim c.else-has.branch [
        | else-has-via-then-has+else-leads_out w ↦ closed_apart i.shut (rw w.if-leads_out.false at w.leads_out.ensures)
        | else-has-via-else-has w ↦ closed_out i.shut (sym c.has.ensures ∙ w.if-has.false)
      ];
    }

-- every location was looked at
all_shut : (c : Joined-k-eq0) → AllShut (hand (goal.at.Joined-k-eq0 c).After-words_for-words) c.evicted_in-evicted.result c.add-in-check.new.row c.minus-outside.result
all_shut c =
    let i = c.loop-a.invariant in
    elim c.loop-a-test.branch [
      | else-loop-a-test w ↦ record { a = c.loop-a.a; closed = i.shut; ended = w.loop-a-test.false }
      | then-loop-a-test+else-has+else-a-n w ↦
          record {
            a = c.loop-a.a + 1;
            closed =
                elim w.else-has.branch [
                  | else-has-via-then-has+else-leads_out x ↦ closed_apart i.shut (rw x.if-leads_out.false at x.leads_out.ensures)
                  | else-has-via-else-has x ↦ closed_out i.shut (sym w.has.ensures ∙ x.if-has.false)
                ];
            ended = omega arith;
          }
    ]

-- ---- the part

-- part 0 is weighed against nothing, and each section against the first forest
sides : (c : Joined-k-eq0) → let k = c.check in Sides k.now c.add-in-check.new.row k.k c.if-k-eq0.now c.if-k-eq0.still
sides c =
    elim c.if-k-eq0.branch [
      | then-k-eq0 w ↦ sides_whole _ w.if-k-eq0.true w.now-is w.still-is
      | else-k-eq0 w ↦ sides_less _ w.if-k-eq0.false w.now-is w.still-is
    ]

pub lost_between-lost-requires : goal.lost_between-lost-requires
lost_between-lost-requires c =
    let i = c.loop-a.invariant.inside in
    let t = i.part.gone.ready in
    let n = part_narrow i (sides (goal.at.lost_between-lost-requires c).Joined-k-eq0) in
    sums_ready _ _ t.read t.made n.0 n.1

pub stated_right-requires : goal.stated_right-requires
stated_right-requires c =
    let p = c.loop-a.invariant.inside.part in
    let t = p.gone.ready in
    (table_limited t, omega (arith, p.most, t.few_parts))

-- it has no fault
gone : (c : Joined-k-ne0) → Parts (hand (goal.at.Joined-k-ne0 c).After-words_for-words) c.if-k-ne0.cuts c.if-k-eq0.now c.loop-a.fault-1 (c.check.k + 1)
gone c =
    let i = c.loop-a.invariant in
    let before = (goal.at.Joined-k-ne0 c).Joined-k-eq0 in
    let lost = c.lost_between-lost.ensures in
    record {
      none = i.none;
      gone = part_gone i.inside (all_shut before) (sides before) lost (sym c.stated_right.ensures ∙ c.if-not-stated_right.false);
      counted = part_counted i.inside (all_shut before) (sides before) lost c.check.invariant.counted
          (elim c.if-k-ne0.branch [ then-k-ne0 w ↦ inr (w.if-k-ne0.true, w.cuts-is) | else-k-ne0 w ↦ inl (w.if-k-ne0.false, w.cuts-is) ]);
    }

pub check-preserved : goal.check-preserved
check-preserved c = gone (goal.at.check-preserved c).Joined-k-ne0

pub returns-after-k-ne0-clause-value : goal.returns-after-k-ne0-clause-value
returns-after-k-ne0-clause-value c = let i = gone (goal.at.returns-after-k-ne0-clause-value c).Joined-k-ne0 in ap fault_of i.none ∙ gone_ended i.gone (omega arith)

pub returns-after-k-ne0-clause-cuts_of : goal.returns-after-k-ne0-clause-cuts_of
returns-after-k-ne0-clause-cuts_of c = λ _. let i = gone (goal.at.returns-after-k-ne0-clause-cuts_of c).Joined-k-ne0 in counted_ended i.gone.ready i.counted (omega arith)

-- ---- the faults

pub returns-then-not-node_right-clause-value : goal.returns-then-not-node_right-clause-value
returns-then-not-node_right-clause-value c =
    part_node c.loop-v.invariant.part (omega arith) (omega arith) (sym c.node_right.ensures ∙ c.if-not-node_right.true)

pub returns-then-marks_any-clause-value : goal.returns-then-marks_any-clause-value
returns-then-marks_any-clause-value c =
    part_evicted c.loop-v.invariant.part (all_seen (goal.at.returns-then-marks_any-clause-value c).After-marks_any)
    (true_T (sym c.marks_any.ensures ∙ c.if-marks_any.true))

pub returns-then-leads_out-clause-value : goal.returns-then-leads_out-clause-value
returns-then-leads_out-clause-value c =
    let l = c.loop-a in
    part_link l.invariant.inside l.a (rw (sym c.has.ensures ∙ c.if-has.true) tt) (rw c.if-leads_out.true at c.leads_out.ensures)

pub returns-then-not-stated_right-clause-value : goal.returns-then-not-stated_right-clause-value
returns-then-not-stated_right-clause-value c =
    let before = (goal.at.returns-then-not-stated_right-clause-value c).Joined-k-eq0 in
    part_stated c.loop-a.invariant.inside (all_shut before) (sides before) c.lost_between-lost.ensures (sym c.stated_right.ensures ∙ c.if-not-stated_right.true)
