-- Fields written one behind the other, from the first byte on: the bits that fill no byte yet are held as a number. Nothing here is promised.
-- Assumes nothing.
use Rattle.std.specs.Prelude.{List, ◌≡◌, ℕ, ◌+◌, ◌*◌, ◌/◌, ◌%◌, ◌^◌, ◌≤◌, ◌<◌, length}
use Rattle.bits.specs.Bits.{put_field}

-- the bytes up to bit p, with the digits that are held for the last, unfinished byte
unfoldable pub flushed : List ℕ → ℕ → ℕ → List ℕ
flushed bs p held = put_field bs (p / 8 * 8) (p % 8) held

-- a field of w bits can follow
pub record Pushable (bs : List ℕ) (p held w v : ℕ) : Type 0 where
  pub room : p + w ≤ length bs * 8
  pub low : p < 2 ^ 32
  pub wide : w ≤ 32
  pub few : held < 2 ^ (p % 8)
  pub value : v < 2 ^ w

-- it follows
pub record Pushed (bs : List ℕ) (p held w v : ℕ) (out : List ℕ) (rest : ℕ) : Type 0 where
  pub same : flushed out (p + w) rest ≡ put_field (flushed bs p held) p w v
  pub small : rest < 2 ^ ((p + w) % 8)
