-- The draws of SplitMix64. Document 02, C-13. Assumes nothing.
use Rattle.std.specs.Prelude.{ℕ, ◌+◌, ◌*◌, ◌/◌, ◌%◌, ◌^◌, bit_xor}

-- "the state grows by 9E3779B97F4A7C15 hex"
abbrev pub growth : ℕ
growth = 0x9E3779B97F4A7C15

-- the state after k draws, from the seed on, which is "the first state": "Per draw, the state grows .. modulo 2^64"
unfoldable pub state_after : ℕ → ℕ → ℕ
state_after seed k = (seed + k * growth) % 2 ^ 64

-- "xored with itself shifted right" by s
unfoldable pub folded : ℕ → ℕ → ℕ
folded z s = bit_xor z (z / 2 ^ s)

-- what a state draws: "The draw is that state, xored with itself shifted right 30, times BF58476D1CE4E5B9 hex, xored with itself shifted right 27,
-- times 94D049BB133111EB hex, xored with itself shifted right 31; products are modulo 2^64"
unfoldable pub draw_of : ℕ → ℕ
draw_of z =
    let once : ℕ = folded z 30 * 0xBF58476D1CE4E5B9 % 2 ^ 64 in
    let twice : ℕ = folded once 27 * 0x94D049BB133111EB % 2 ^ 64 in
    folded twice 31

-- draw k, counted from 1
unfoldable pub draw : ℕ → ℕ → ℕ
draw seed k = draw_of (state_after seed k)
