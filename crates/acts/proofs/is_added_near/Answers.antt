-- `is_added_near` tests a slot's block, its near mark and its state. Assumes nothing.
use mathlib.Core.Path.{◌≡◌, sym, ◌∙◌}
use borrow.Author.Tests.{lt-ltb, le-ltb}
use Rattle.picture.specs.Picture.{picture_of}
use Rattle.network.specs.Words.{in_block}
use Rattle.acts.specs.Acts.{recoverable_near}
use Rattle.acts.proofs.Headers.{read_in_block}
use Rattle.acts.proofs.is_added_near.Goals as goal
use Rattle.acts.proofs.is_added_near.Goals.{Joined-before-v, then-before-v, else-before-v}

-- the two comparisons tell whether the slot is one of the block's
inside : (c : Joined-before-v) → let a = c.args in c.if-before-v.value ≡ in_block (picture_of a.p.now) a.b a.v
inside c =
    elim c.if-before-v.branch [
      | then-before-v w ↦ w.value-is ∙ sym (rw (read_in_block _ _ c.header-h.ensures _ _, lt-ltb _ _ w.if-before-v.true))
      | else-before-v w ↦
          w.value-is ∙ le-ltb _ _ w.if-before-v.false ∙ sym (rw (read_in_block _ _ c.header-h.ensures _ _, le-ltb _ _ w.if-before-v.false))
    ]

pub returns-then-v-before : goal.returns-then-v-before
unfolding recoverable_near
returns-then-v-before c = rw (sym (inside (goal.at.returns-then-v-before c).Joined-before-v) ∙ c.if-v-before.true) c.is_near_in.ensures

pub returns-else-v-before : goal.returns-else-v-before
unfolding recoverable_near
returns-else-v-before c = rw (sym (inside (goal.at.returns-else-v-before c).Joined-before-v), c.if-v-before.false)
