-- `endpoint_weight` reads an endpoint's weight. Assumes nothing.
use Rattle.picture.proofs.Facts.{read_picture, read_endpoint}
use Rattle.picture.proofs.reading.Picture.endpoint_weight.Goals as goal

pub endpoint_weight-requires : goal.endpoint_weight-requires
endpoint_weight-requires c = read_endpoint _ _ c.self.invariant _ (rw (← c.self.view_is) at c.requires)

pub returns : goal.returns
returns c = rw (← c.self.view_is, ← read_picture _ _ c.self.invariant) c.endpoint_weight.ensures
