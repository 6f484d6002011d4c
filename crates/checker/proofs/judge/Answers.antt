-- `judge` judges the form, the parts and the verdict, in this order. Assumes nothing.
use mathlib.Core.Path.{◌≡◌, sym, ap, ◌∙◌, subst}
use mathlib.Core.Bool.{true}
use mathlib.Core.List.{List}
use Prim.Native.Nat.{ℕ, ◌≤◌}
use native.Mathlib.Omega.{arith}
use lib.ListN.{length}
use Rattle.std.proofs.Common.{length-take-le, length-append}
use Rattle.std.proofs.lemmas.List.{take_at}
use Rattle.std.proofs.lemmas.Result.{err_from_is_err_and}
use Rattle.picture.specs.Layout.{blocks_max, edition_of}
use Rattle.picture.specs.Refusals.{fault_of}
use Rattle.picture.specs.Picture.{picture_of}
use Rattle.picture.proofs.Facts.{read_edition, read_limited, read_sizes}
use Rattle.network.specs.Words.{slot_count}
use Rattle.network.specs.Tests.{candidates}
use Rattle.network.proofs.Candidates.{marked_candidates}
use Rattle.network.proofs.Blocks.{read_slots, read_block_size, read_blocks}
use Rattle.evidence.specs.Canonical.{weighings}
use Rattle.evidence.specs.Checks.{form_right, verdict_right}
use Rattle.evidence.proofs.Fields.{candidates_few}
use Rattle.checker.specs.Form.{form_of}
use Rattle.checker.specs.Forests.{parts_fault, CutsOf}
use Rattle.checker.specs.Verdict.{stated}
use Rattle.checker.proofs.Answering.{check_form, check_part, check_verdict, check_none, stated_weighings}
use Rattle.checker.proofs.Forms.{form_found, form_missed}
use Rattle.checker.proofs.judge.Goals as goal
use Rattle.checker.proofs.judge.Goals.{After-form_of, After-verdict_right, In-Some, In_ok-judge_parts}

-- the blocks that are marked are the candidates, so the form was judged for these
judged_form : (c : After-form_of) → let a = c.args in let p = picture_of a.p.now in c.form_of.result ≡ form_of (edition_of a.p.now) (slot_count p) a.ev.now (candidates p)
judged_form c =
    let r = c.header.ensures in
    let e = marked_candidates c.slot_rows-rows.ensures (read_block_size _ _ r) (sym (read_blocks _ _ r)) in
    rw (e, ← read_slots _ _ r, read_edition _ _ r) at c.form_of.ensures

formed : (c : In-Some) → let a = c.args in let p = picture_of a.p.now in
    (form_right (edition_of a.p.now) p a.ev.now ≡ true) × (c.in-Some.count ≡ length (candidates p))
formed c = form_found _ _ _ _ (sym c.in-Some.is ∙ judged_form (goal.at.In-Some c).After-form_of)

few : (c : In-Some) → c.in-Some.count ≤ blocks_max
few c = omega (arith, (formed c).1, candidates_few _ c.header.ensures.accepted)

-- no part has a fault, so the numbers of endpoints cut are there, one for each section
counted : (c : In_ok-judge_parts) → CutsOf (picture_of c.args.p.now) c.judge_parts.new.cuts
counted c = c.judge_parts.ensures.cuts_of (ap fault_of (c.in_ok-judge_parts.was))

filled : (c : In_ok-judge_parts) → length c.judge_parts.new.cuts ≡ c.in-Some.count
filled c = (counted c).many ∙ sym (formed (goal.at.In_ok-judge_parts c).In-Some).1

-- and the sections state what the candidates weigh
clean : (c : In_ok-judge_parts) → 0 ≡ parts_fault c.args.p.now c.args.ev.now
clean c = sym (ap fault_of (c.in_ok-judge_parts.was)) ∙ c.judge_parts.ensures.value

judged : (c : After-verdict_right) → c.verdict_right.result ≡ verdict_right c.args.ev.now (weighings (picture_of c.args.p.now))
judged c =
    let before = (goal.at.After-verdict_right c).In_ok-judge_parts in
    let f = formed (goal.at.After-verdict_right c).In-Some in
    let h = c.header-2.result in
    c.verdict_right.ensures ∙ ap (λ (cuts : List ℕ). verdict_right c.args.ev.now (stated h.edition h.slots c.args.ev.now cuts)) (take_at _ _ _ (filled before))
    ∙ ap (verdict_right c.args.ev.now) (stated_weighings _ _ c.header-2.ensures f.0 (clean before) (counted before))

pub form_of-requires : goal.form_of-requires
form_of-requires c = let r = c.header.ensures in (read_limited _ _ r, read_sizes _ _ r)

pub returns-in_default : goal.returns-in_default
returns-in_default c = check_form _ _ c.header.ensures (form_missed _ _ _ (sym c.in_default.is ∙ judged_form (goal.at.returns-in_default c).After-form_of))

pub slice_bounds-cuts-end : goal.slice_bounds-cuts-end
slice_bounds-cuts-end c = few (goal.at.slice_bounds-cuts-end c).In-Some

pub slice_bounds-judge_parts-end : goal.slice_bounds-judge_parts-end
slice_bounds-judge_parts-end c = sym (length-take-le _ _ (few (goal.at.slice_bounds-judge_parts-end c).In-Some))

pub judge_parts-requires-clause-cuts_len : goal.judge_parts-requires-clause-cuts_len
judge_parts-requires-clause-cuts_len c =
    let before = (goal.at.judge_parts-requires-clause-cuts_len c).In-Some in length-take-le _ _ (few before) ∙ (formed before).1

pub judge_parts-requires-clause-read : goal.judge_parts-requires-clause-read
judge_parts-requires-clause-read c =
    let f = formed (goal.at.judge_parts-requires-clause-read c).In-Some in ((_, c.slot_rows-rows.ensures), f.0)

pub returns-in_err-judge_parts : goal.returns-in_err-judge_parts
returns-in_err-judge_parts c =
    let p = err_from_is_err_and c.from_residual.result c.from_residual.ensures.1 in
    rw (p.1, p.2)
    (check_part _ _ c.header.ensures (formed (goal.at.returns-in_err-judge_parts c).In-Some).0 _
    (sym (ap fault_of (c.in_err-judge_parts.was)) ∙ c.judge_parts.ensures.value))

pub slice_bounds-cuts-end-2 : goal.slice_bounds-cuts-end-2
slice_bounds-cuts-end-2 c = omega (arith, filled (goal.at.slice_bounds-cuts-end-2 c).In_ok-judge_parts, length-append c.judge_parts.new.cuts)

pub slice_bounds-verdict_right-end : goal.slice_bounds-verdict_right-end
slice_bounds-verdict_right-end c =
    let same = filled (goal.at.slice_bounds-verdict_right-end c).In_ok-judge_parts in sym (ap length (take_at _ _ _ same) ∙ same)

pub verdict_right-requires : goal.verdict_right-requires
verdict_right-requires c =
    let same = filled (goal.at.verdict_right-requires c).In_ok-judge_parts in
    let short : c.in-Some.count ≤ 255 = omega (arith, few (goal.at.verdict_right-requires c).In-Some) in
    (read_limited _ _ c.header-2.ensures, subst (λ (n : ℕ). n ≤ 255) (sym (ap length (take_at _ _ _ same) ∙ same)) short)

pub returns-then-not-verdict_right : goal.returns-then-not-verdict_right
returns-then-not-verdict_right c =
    check_verdict _ _ c.header.ensures (formed (goal.at.returns-then-not-verdict_right c).In-Some).0 (clean (goal.at.returns-then-not-verdict_right c).In_ok-judge_parts)
    (sym (judged (goal.at.returns-then-not-verdict_right c).After-verdict_right) ∙ c.if-not-verdict_right.true)

pub returns : goal.returns
returns c =
    check_none _ _ c.header.ensures (formed (goal.at.returns c).In-Some).0 (clean (goal.at.returns c).In_ok-judge_parts)
    (sym (judged (goal.at.returns c).After-verdict_right) ∙ c.if-not-verdict_right.false)
