-- `service_link_rows` marks every service link, in the row of its endpoint. Assumes nothing.
use Prim.Native.Nat.{suc}
use Rattle.picture.specs.Layout.{endpoints_max}
use Rattle.picture.specs.Picture.{picture_of}
use Rattle.network.proofs.Making.{leads, Linking}
use Rattle.network.proofs.service_link_rows.Given as goal

abbrev pub invariant-loop-i : goal.invariant-loop-i
invariant-loop-i l = Linking (suc endpoints_max) (λ c a. leads a c) (picture_of l.p).service_links l.table l.i
