-- `lost` sums over the endpoints that are lost, by rows that are ready for that. Assumes nothing.
use Rattle.weigh.proofs.Serving.{sums_ready}
use Rattle.choose.proofs.Weighing.lost.Goals as goal

pub lost_between-requires : goal.lost_between-requires
lost_between-requires c =
    let r = c.requires.rows.1 in
    let words = c.words_for-words.ensures in
    sums_ready _ _ r.read r.tables (rw words r.narrow) (rw words c.requires.narrow)
