-- `push_row` fills a row with the next two draws. Assumes nothing.
use mathlib.Core.Path.{◌≡◌, ap, ◌∙◌}
use Prim.Native.Nat.{ℕ}
use Rattle.draws.specs.Draws.{state_after, draw_of, draw}
use Rattle.draws.proofs.States.{state_later}
use Rattle.generator.specs.Inner.{taken, row_fields}
use Rattle.generator.proofs.Rows.{taken_small}
use Rattle.generator.proofs.push_row.Goals as goal
use Rattle.generator.proofs.push_row.Goals.{After-next_state-two}

second : (c : After-next_state-two) → c.next_state-two.result ≡ state_after c.args.from.state 2
second c = c.next_state-two.ensures ∙ rw (c.next_state-one.ensures, state_later c.args.from.state 1 1)

pub push_pair-requires : goal.push_pair-requires
push_pair-requires c =
    let p = c.requires in
    record {
      room = p.room;
      wide = p.wide;
      first = rw c.take-x.ensures (taken_small p.first _);
      second = rw c.take-y.ensures (taken_small p.second _);
    }

pub returns : goal.returns
unfolding row_fields draw
returns c =
    let a = c.args in
    let two = second (goal.at.returns c).After-next_state-two in
    let x = c.take-x.ensures ∙ ap (λ (z : ℕ). taken a.first (draw_of z)) c.next_state-one.ensures in
    let y = c.take-y.ensures ∙ ap (λ (z : ℕ). taken a.second (draw_of z)) two in
    record { state = two; follows = rw (x, y) at c.push_pair.ensures }
