-- `endpoint_feeders` takes together what the service links tell. Assumes nothing.
use Rattle.picture.specs.Picture.{picture_of}
use Rattle.price.specs.Inner.{told}
use Rattle.price.proofs.Endpoints.{ToldFrom}
use Rattle.price.proofs.endpoint_feeders.Given as goal

abbrev pub invariant-loop-i : goal.invariant-loop-i
invariant-loop-i l = ToldFrom (told (picture_of l.p)) (picture_of l.p).service_links l.feeders l.i
