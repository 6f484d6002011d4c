-- The rules of lists that are handed over, each by a name: a view of `handed_rules`. Assumes nothing.
use mathlib.Core.Path.{◌≡◌}
use Prim.Native.Nat.{◌^◌, ◌<◌}
use lib.ListN.{length}
use Rattle.picture.specs.declared.Edition.{Edition}
use Rattle.picture.specs.declared.Header.{Header}
use Rattle.picture.specs.Layout.{edition_for}
use Rattle.picture.specs.Rules.{Sizes, Counts, States, Links}
use Rattle.picture.proofs.Kept.{ServiceLinks}
use Rattle.write.specs.Columns.{Lists, picture_from, header_for}

-- the edition of lists, by its number, and the header of their picture
abbrev pub edition_in : Lists → Edition
edition_in l = edition_for l.edition

abbrev pub header_from : Lists → Header
header_from l = header_for (edition_in l) (picture_from l)

-- lists that keep their rules, by name
pub record Right (l : Lists) : Type 0 where
  pub edition : l.edition ≡ (edition_in l).number
  pub slots_even : length l.states ≡ length l.near
  pub sizes : Sizes (header_from l)
  pub near_limit_lem : l.near_limit < 2 ^ (edition_in l).location_bits
  pub endpoints_even : length l.weights ≡ length l.protected
  pub counts : Counts (header_from l)
  pub states : States (header_from l).slots (picture_from l)
  pub links : Links (header_from l).slots (picture_from l)
  pub service_links : ServiceLinks (header_from l).slots (header_from l).endpoints (picture_from l)
