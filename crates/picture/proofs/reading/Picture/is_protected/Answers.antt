-- `is_protected` reads an endpoint's protected mark. Assumes nothing.
use Rattle.picture.proofs.Facts.{read_picture, read_endpoint}
use Rattle.picture.proofs.reading.Picture.is_protected.Goals as goal

pub endpoint_protected-requires : goal.endpoint_protected-requires
endpoint_protected-requires c = read_endpoint _ _ c.self.invariant _ (rw (← c.self.view_is) at c.requires)

pub returns : goal.returns
returns c = rw (← c.self.view_is, ← read_picture _ _ c.self.invariant) c.endpoint_protected.ensures
