-- What is true of both editions. Assumes nothing.
use mathlib.Core.Path.{◌≡◌, refl}
use mathlib.Core.Bool.{Bool, true, false, cond}
use mathlib.Core.Logic.{◌≢◌}
use Prim.Native.Nat.{ℕ, ◌*◌, ◌^◌, ◌≤◌, ◌<◌}
use native.Mathlib.Omega.{arith}
use lib.Dec.{eqb}
use Rattle.lists.specs.Lists.{sum}
use Rattle.picture.specs.declared.Edition.{Edition}
use Rattle.picture.specs.Layout.{edition1, edition2, edition_for, least_bytes, header_widths, slots_at, header_bytes}
use Rattle.picture.specs.Inner.{Known}

-- a number tells one of the two
pub known_for : (k : ℕ) → Known (edition_for k)
unfolding edition_for
known_for k = go (eqb k 2)
  where
    go : (b : Bool) → Known (cond b edition2 edition1)
    go true = Known.second
    go false = Known.first

-- and its own number tells each of them
pub known_number : {e : Edition} → Known e → edition_for e.number ≡ e
unfolding edition_for
known_number Known.first = refl
known_number Known.second = refl

-- a location that has not the width of the first has that of the second
pub wide_or : (e : Edition) → Known e → e.location_bits ≢ edition1.location_bits → edition2.location_bits ≡ e.location_bits
wide_or _ Known.first n = absurd (n refl)
wide_or _ Known.second n = refl

-- no edition is wider than the second; n fits the width of a location, and its own number and β four bits; the header has whole bytes
pub record Widths (e : Edition) : Type 0 where
  pub bits_most : e.location_bits ≤ edition2.location_bits
  pub slots_most : e.slots_max ≤ edition2.slots_max
  pub slots_fit : e.slots_max < 2 ^ e.location_bits
  pub size_fits : e.block_size_max < 2 ^ 4
  pub number_fits : e.number < 2 ^ 4
  pub whole : header_bytes e * 8 ≡ slots_at e

pub widths : {e : Edition} → Known e → Widths e
unfolding header_bytes slots_at header_widths sum
widths Known.first = record { bits_most = omega arith; slots_most = omega arith; slots_fit = omega arith; size_fits = omega arith; number_fits = omega arith; whole = refl }
widths Known.second = record { bits_most = omega arith; slots_most = omega arith; slots_fit = omega arith; size_fits = omega arith; number_fits = omega arith; whole = refl }

-- no header is shorter than the shortest
pub header_least : {e : Edition} → Known e → least_bytes ≤ header_bytes e
unfolding header_bytes slots_at header_widths sum
header_least Known.first = omega arith
header_least Known.second = omega arith
