-- The state grows draw by draw. Assumes nothing.
use Rattle.std.proofs.Common.{◌≡◌, ℕ, ◌+◌, ◌*◌, ◌%◌, ◌^◌, ◌<◌, ap, arith}
use Rattle.draws.specs.Draws.{growth, state_after, draw_of, draw}

pub state_begun : (z : ℕ) → z < 2 ^ 64 → z ≡ state_after z (0 * 2)
unfolding state_after
state_begun z l = omega arith

-- "Per draw, the state grows by 9E3779B97F4A7C15 hex modulo 2^64" (02)
pub state_next : (z k : ℕ) → state_after z (k + 1) ≡ (state_after z k + growth) % 2 ^ 64
unfolding state_after
state_next z k = omega arith

-- draws from the state after j draws are those that follow
pub state_later : (z j k : ℕ) → state_after (state_after z j) k ≡ state_after z (j + k)
unfolding state_after
state_later z j k = omega arith

pub draw_later : (z j k : ℕ) → draw (state_after z j) k ≡ draw z (j + k)
unfolding draw
draw_later z j k = ap draw_of (state_later z j k)
