-- `list` lists a picture of any bytes. Assumes nothing.
use mathlib.Core.Path.{refl, sym, ap}
use Rattle.picture.proofs.Refusing.{number_some}
use Rattle.listing.specs.Listing.{listing}
use Rattle.listing.proofs.Texts.{text_whole}
use Rattle.listing.proofs.Long.{listing_refused}
use Rattle.listing.proofs.list.Goals as goal
use Rattle.listing.proofs.list.Goals.{in-Err, in-Ok}

pub returns : goal.returns
returns c =
    elim c.match-read.branch [
      | in-Err w ↦
          let all = text_whole w.put_refused_line.ensures refl (sym (listing_refused _ _ (sym w.in-Err.ensures) (number_some _))) in
          rw w.out-is (record { size = all.0; bytes = all.1 })
      | in-Ok w ↦
          let all = text_whole w.put_plan_lines.ensures refl (ap listing w.in-Ok.ensures.0) in
          rw w.out-is (record { size = all.0; bytes = all.1 })
    ]
