-- `location_feeders` says the block of each reached slot. Assumes nothing.
use Rattle.lists.proofs.Storing.{Stored}
use Rattle.rows.specs.Rows.{locations_max}
use Rattle.price.specs.Inner.{no_feeder}
use Rattle.price.proofs.Locations.{by_row}
use Rattle.price.proofs.location_feeders.Given as goal

abbrev pub invariant-loop-v : goal.invariant-loop-v
invariant-loop-v l = Stored locations_max no_feeder (by_row l.reached l.h.block_size) l.feeders l.v
