-- The number that an argument says: one or more decimal digits, in ASCII, for a number of 64 bits. Assumes nothing.
use Rattle.std.specs.Prelude.{Bool, ◌&&◌, cond, List, [], ◌∷◌, ℕ, ◌+◌, ◌-◌, ◌*◌, ◌^◌, Option, None, Some, leb, ltb}

-- a digit behind a number that has been read, as long as it is one of 64 bits
unfoldable pub goes_on : ℕ → ℕ → Bool
goes_on n c = leb 48 c && (leb c 57 && ltb (n * 10 + (c - 48)) (2 ^ 64))

-- the rest of an argument, behind the number that has been read
unfoldable pub read_on : ℕ → List ℕ → Option ℕ
read_on n [] = Some n
read_on n (c ∷ cs) = cond (goes_on n c) (read_on (n * 10 + (c - 48)) cs) None

unfoldable pub given : List ℕ → Option ℕ
given [] = None
given (c ∷ cs) = read_on 0 (c ∷ cs)
