-- `judge` finds the first fault of an act on a block of an accepted picture. Assumes nothing.
use mathlib.Core.Path.{◌≡◌, sym, ◌∙◌}
use mathlib.Core.Bool.{true}
use Prim.Native.Nat.{◌<◌}
use native.Mathlib.Omega.{arith}
use Rattle.std.proofs.Common.{rules}
use Rattle.std.proofs.lemmas.Result.{err_from_is_err_and}
use Rattle.picture.specs.Picture.{picture_of}
use Rattle.picture.proofs.Facts.{read_sizes}
use Rattle.network.specs.Words.{block_count}
use Rattle.network.proofs.Blocks.{read_blocks}
use Rattle.acts.specs.Faults.{changes}
use Rattle.acts.proofs.Answering.{no_block, no_change, cuts, cuts_none}
use Rattle.acts.proofs.judge.Goals as goal
use Rattle.acts.proofs.judge.Goals.{Else-h-b, Else-not-changes}

-- the block is there
there : (c : Else-h-b) → c.args.b < block_count (picture_of c.args.p.now)
there c = rw (← read_blocks _ _ c.header-h.ensures) c.if-h-b.false

-- a slot changes
changing : (c : Else-not-changes) → let a = c.args in changes a.a (picture_of a.p.now) a.b ≡ true
changing c = sym c.changes.ensures ∙ c.if-not-changes.false

pub nonzero_div-h : goal.nonzero_div-h
nonzero_div-h c = omega (arith, (read_sizes _ _ c.header-h.ensures).size_some)

pub returns-then-h-b : goal.returns-then-h-b
returns-then-h-b c =
    let r = c.header-h.ensures in
    no_block _ _ _ r.accepted (rw (← read_blocks _ _ r) c.if-h-b.true)

pub returns-then-not-changes : goal.returns-then-not-changes
returns-then-not-changes c =
    no_change _ _ _ c.header-h.ensures.accepted (there (goal.at.returns-then-not-changes c).Else-h-b) (sym c.changes.ensures ∙ c.if-not-changes.true)

pub returns-in_err-judge_cut : goal.returns-in_err-judge_cut
returns-in_err-judge_cut c =
    let p = err_from_is_err_and c.from_residual.result c.from_residual.ensures.1 in
    rw (p.1, p.2)
    (cuts _ _ _ c.header-h.ensures.accepted (there (goal.at.returns-in_err-judge_cut c).Else-h-b)
    (changing (goal.at.returns-in_err-judge_cut c).Else-not-changes) _ c.in_err-judge_cut.ensures)

pub returns : goal.returns
returns c =
    cuts_none _ _ _ c.header-h.ensures.accepted (there (goal.at.returns c).Else-h-b) (changing (goal.at.returns c).Else-not-changes)
    c.in_ok-judge_cut.ensures (search rules)
