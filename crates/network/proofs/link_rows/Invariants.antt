-- `link_rows` marks every link. Assumes nothing.
use Rattle.rows.specs.Rows.{locations_max}
use Rattle.picture.specs.Picture.{picture_of}
use Rattle.network.proofs.Making.{leads, Linking}
use Rattle.network.proofs.link_rows.Given as goal

abbrev pub invariant-loop-i : goal.invariant-loop-i
invariant-loop-i l = Linking locations_max leads (picture_of l.p).links l.table l.i
