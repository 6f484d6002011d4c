-- Numbers in decimal, in ASCII. Assumes nothing.
use Rattle.std.specs.Prelude.{List, ℕ, suc, ◌^◌, ltb}
use Rattle.lists.specs.Lists.{range, place}
use Rattle.io.specs.Digits.{last_digits}

-- how many digits n takes: the first k from 1 on with n below 10 to the k
unfoldable pub places : ℕ → ℕ
places n = suc (place (λ k. ltb n (10 ^ k)) (range 1 n))

-- n in decimal, without zeros in front
unfoldable pub decimal : ℕ → List ℕ
decimal n = last_digits 10 (places n) n
