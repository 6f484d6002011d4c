-- `put_plan_lines` puts what the evidence of an accepted picture tells. Assumes nothing.
use mathlib.Core.Path.{sym, ap, ◌∙◌}
use native.Mathlib.Omega.{arith}
use Rattle.picture.proofs.Facts.{read_limited}
use Rattle.evidence.specs.Canonical.{evidence_of}
use Rattle.evidence.specs.Calls.{length_for}
use Rattle.evidence.proofs.Fields.{candidates_few, length_evidence}
use Rattle.evidence.proofs.Lengths.{length_most}
use Rattle.evidence.proofs.Held.{evidence_reads}
use Rattle.listing.specs.ByEvidence.{evidence_lines}
use Rattle.listing.proofs.Texts.{Front, front}
use Rattle.listing.proofs.ByEvidence.{evidence_listed}
use Rattle.listing.proofs.Text.put_plan_lines.Goals as goal
use Rattle.listing.proofs.Text.put_plan_lines.Goals.{After-write_evidence}

-- the space up to the length is the evidence
shown : (c : After-write_evidence) → Front (evidence_of c.args.p.now) c.make_plan-plan.result.length c.write_evidence.new.buf
unfolding length_for
shown c = front _ _ (c.make_plan-plan.ensures.long ∙ sym (length_evidence c.args.p.now)) c.write_evidence.ensures

pub write_evidence-requires : goal.write_evidence-requires
write_evidence-requires c =
    let plan = c.make_plan-plan.ensures in
    record { planned = plan; room = omega (arith, plan.long, length_most _ c.header-h.ensures.accepted) }

pub slice_bounds-space-end : goal.slice_bounds-space-end
slice_bounds-space-end c = (shown (goal.at.slice_bounds-space-end c).After-write_evidence).within

pub slice_bounds-put_lines-end : goal.slice_bounds-put_lines-end
slice_bounds-put_lines-end c = (shown (goal.at.slice_bounds-put_lines-end c).After-write_evidence).long

pub put_lines-requires : goal.put_lines-requires
put_lines-requires c =
    let r = c.header-h.ensures in
    let s = (shown (goal.at.put_lines-requires c).After-write_evidence).shown in
    (read_limited _ _ r, rw (s, (evidence_reads _ r.accepted).count) (candidates_few _ r.accepted), c.requires)

pub returns : goal.returns
returns c =
    let h = c.header-h.result in
    let s = (shown (goal.at.returns c).After-write_evidence).shown in
    rw (ap (evidence_lines h.edition h.slots) s ∙ evidence_listed c.header-h.ensures) at c.put_lines.ensures
