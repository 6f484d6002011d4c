-- `shown_part` finds the chosen candidate's section. Assumes nothing.
use mathlib.Core.Path.{◌≡◌, sym, ◌∙◌}
use native.Mathlib.Omega.{arith}
use Rattle.picture.proofs.Facts.{read_edition, read_limited}
use Rattle.picture.proofs.Refusing.{number_some, ok_fault, err_fault}
use Rattle.network.proofs.Blocks.{read_slots}
use Rattle.evidence.specs.Checks.{check_fault}
use Rattle.evidence.proofs.Showing.{named_at, shown_failed, shown_part_lem}
use Rattle.checker.proofs.Answering.{check_picture}
use Rattle.checker.proofs.Showing.{count_few, named_few, named_section}
use Rattle.checker.proofs.shown_part.Goals as goal
use Rattle.checker.proofs.shown_part.Goals.{After-section_named-i, Else-is_err}

passed : (c : Else-is_err) → let a = c.args in check_fault a.s.now a.ev.now ≡ 0
passed c = sym (rw c.in-Ok.ensures.0 at c.judge.ensures) ∙ ok_fault _ (sym c.is_err.ensures.value ∙ c.if-is_err.false)

-- and the section is that of the block that is named
named : (c : After-section_named-i) → let a = c.args in
    c.section_named-i.result ≡ named_at a.s.now a.ev.now
named c =
    c.section_named-i.ensures
    ∙ rw c.head_of-head.ensures (named_section _ _ (passed (goal.at.After-section_named-i c).Else-is_err) (rw c.in-Ok.ensures.0 at c.header-h.ensures))

pub returns-in_default : goal.returns-in_default
returns-in_default c =
    let k = check_picture _ c.args.ev.now _ c.in_default.ensures in
    sym (shown_failed _ _ (λ z. number_some _ (k ∙ z)))

pub returns-then-is_err : goal.returns-then-is_err
returns-then-is_err c = sym (shown_failed _ _ (λ z. err_fault _ (sym c.is_err.ensures.value ∙ c.if-is_err.true) (rw c.in-Ok.ensures.0 at c.judge.ensures ∙ z)))

pub section_named-i-requires : goal.section_named-i-requires
section_named-i-requires c = (
  read_limited _ _ c.header-h.ensures,
  rw c.head_of-head.ensures (omega (arith, count_few _ _ (passed (goal.at.section_named-i-requires c).Else-is_err))),
)

pub section_at-requires : goal.section_at-requires
section_at-requires c = (
  read_limited _ _ c.header-h.ensures,
  omega (arith, named (goal.at.section_at-requires c).After-section_named-i, named_few _ _ (passed (goal.at.section_at-requires c).Else-is_err)),
)

pub section_bytes-requires : goal.section_bytes-requires
section_bytes-requires c = read_limited _ _ c.header-h.ensures

pub returns : goal.returns
returns c =
    let r = rw c.in-Ok.ensures.0 at c.header-h.ensures in
    let one = rw c.head_of-head.ensures at c.if-head-ne1.false in
    rw (c.section_bytes.ensures, c.section_at.ensures, named (goal.at.returns c).After-section_named-i)
    (sym (rw (read_slots _ _ r, ← read_edition _ _ r) at (shown_part_lem _ _ (passed (goal.at.returns c).Else-is_err) one)))
