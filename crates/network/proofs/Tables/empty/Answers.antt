-- `empty` makes tables that mark nothing. Assumes nothing.
use mathlib.Core.Path.{refl}
use Rattle.network.proofs.Making.{clear_made}
use Rattle.network.proofs.Tables.empty.Goals as goal

pub returns : goal.returns
returns c = record { links = clear_made _; services = clear_made _; weights = refl }
