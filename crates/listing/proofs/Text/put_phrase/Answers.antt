-- `put_phrase` puts the word and the digits behind it. Assumes nothing.
use mathlib.Core.Path.{◌≡◌, ap, ◌∙◌}
use Prim.Native.Nat.{ℕ, ◌≤◌}
use native.Mathlib.Omega.{arith}
use lib.ListN.{length, take}
use Rattle.io.specs.Digits.{last_digits}
use Rattle.listing.specs.Decimal.{decimal}
use Rattle.listing.specs.Listing.{phrase}
use Rattle.listing.proofs.Texts.{text_then}
use Rattle.listing.proofs.Decimals.{fewest_places, decimal_short}
use Rattle.listing.proofs.Text.put_phrase.Goals as goal
use Rattle.listing.proofs.Text.put_phrase.Goals.{After-decimal-k}

-- the digits are the number in decimal
shown : (c : After-decimal-k) → take c.decimal-k.result c.decimal-k.new.out ≡ decimal c.args.number
unfolding decimal
shown c = let e = c.decimal-k.ensures in e.digits ∙ ap (λ (k : ℕ). last_digits 10 k c.args.number) (fewest_places _ _ e.len)

-- and they are few
few : (c : After-decimal-k) → length (take c.decimal-k.result c.decimal-k.new.out) ≤ 8
few c = omega (arith, ap length (shown c), decimal_short c.args.number c.requires.0)

pub put_word-requires-2 : goal.put_word-requires-2
put_word-requires-2 c = omega (arith, few (goal.at.put_word-requires-2 c).After-decimal-k)

pub returns : goal.returns
unfolding phrase
returns c =
    let d = (goal.at.returns c).After-decimal-k in
    record { text = rw (shown d) at (text_then c.put_word.ensures c.put_word-2.ensures); short = omega (arith, few d) }
