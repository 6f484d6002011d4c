-- Numbers in decimal: how many digits they take. Assumes nothing.
use mathlib.Core.Path.{◌≡◌, refl, ap, ◌∙◌}
use mathlib.Core.Bool.{Bool, true, false}
use mathlib.Core.Logic.{by_cases}
use mathlib.Core.List.{List}
use Prim.Native.Nat.{ℕ, zero, suc, ◌+◌, ◌/◌, ◌^◌, ◌≤◌, ◌<◌}
use native.Mathlib.Omega.{arith}
use native.Mathlib.Nat.{pow-succ', pow-le-pow_right}
use native.Mathlib.Numerals.{one-add, unary_clauses}
use native.Mathlib.Decide.{ℕ_discrete, dec_lt}
use borrow.Author.Tests.{lt-ltb, le-ltb}
use lib.Dec.{ltb}
use lib.ListN.{length, length-append}
use Rattle.lists.specs.Lists.{range, place}
use Rattle.lists.proofs.Ranges.{length_range}
use Rattle.lists.proofs.Searches.{place_le, place_first, place_is}
use Rattle.lists.proofs.Picks.{get_d_range}
use Rattle.io.specs.Digits.{last_digits, IsDigitCount}
use Rattle.listing.specs.Decimal.{places, decimal}
use Rattle.listing.specs.Listing.{phrase}

-- j is below 10 to the j
below_power : (j : ℕ) → j < 10 ^ j
below_power zero = omega arith
below_power (suc j) = omega (arith, pow-succ' 10 j, below_power j)

-- the fewest digits that hold n are its places
pub fewest_places : (n r : ℕ) → IsDigitCount 10 1 n r → r ≡ places n
unfolding places
fewest_places n zero f = absurd (omega (arith, f.0))
fewest_places n (suc j) f = ap suc (place_is (λ k. ltb n (10 ^ k)) 1 j n ends before here)
  where
    least : 0 < j → 10 ^ j ≤ n
    least l = simp unary_clauses at (f.2 (omega arith))

    ends : j ≤ n
    ends = by_cases (ℕ_discrete j 0) (λ e. omega arith) (λ e. omega (arith, below_power j, least (omega arith)))

    before : (m : ℕ) → m < j → ltb n (10 ^ (1 + m)) ≡ false
    before m l =
        let p : 10 ^ (1 + m) ≤ 10 ^ j = pow-le-pow_right (omega arith) (omega arith) in
        le-ltb n (10 ^ (1 + m)) (omega (arith, least (omega arith)))

    here : j < n → ltb n (10 ^ (1 + j)) ≡ true
    here l = lt-ltb n (10 ^ (1 + j)) (rw one-add f.1)

-- k digits are k bytes
length_digits : (k n : ℕ) → length (last_digits 10 k n) ≡ k
length_digits zero n = refl
length_digits (suc k) n = length-append (last_digits 10 k (n / 10)) _ ∙ omega (arith, length_digits k (n / 10))

-- a number below 10 to the 8 takes at most eight digits
pub decimal_short : (n : ℕ) → n < 10 ^ 8 → length (decimal n) ≤ 8
unfolding decimal places
decimal_short n h =
    let fits : ℕ → Bool = λ k. ltb n (10 ^ k) in
    let few : place fits (range 1 n) ≤ 7 =
    by_cases (dec_lt 7 n)
    (λ l. place_first 0 fits (range 1 n) 7 (rw (length_range 1 n) l) (rw (get_d_range 0 1 n 7 l, lt-ltb n (10 ^ 8) h) tt))
    (λ l. omega (arith, place_le fits (range 1 n), length_range 1 n)) in
    omega (arith, length_digits (places n) n)

-- a word and its number take at most eight bytes more than the word
pub phrase_short : (word : List ℕ) (n : ℕ) → n < 10 ^ 8 → length (phrase word n) ≤ length word + 8
unfolding phrase
phrase_short word n h = omega (arith, length-append word (decimal n), decimal_short n h)
