-- The number of the first fault. Assumes nothing.
use Rattle.std.specs.Prelude.{not, ◌&&◌, List, [], ◌∷◌, map, ℕ, ◌*◌, ◌%◌, eqb, leb, length}
use Rattle.lists.specs.Lists.{on, first}
use Rattle.picture.specs.declared.Link.{Link}
use Rattle.picture.specs.Picture.{Picture, picture_of}
use Rattle.picture.specs.Faults.{picture_fault}
use Rattle.network.specs.Words.{endpoint_count}
use Rattle.price.specs.declared.Record.{Record}
use Rattle.price.specs.Traffic.{record_bytes, records_max, records_of}

-- 19: a link starts elsewhere than at the origin
unfoldable pub link_start_fault : Link → ℕ
link_start_fault l = on (not (eqb l.from 0)) 19

unfoldable pub flat_fault : Picture → ℕ
flat_fault p = first (map link_start_fault p.links)

-- 20: the length is no multiple of three, or that of more than 60,000 records
unfoldable pub length_fault : List ℕ → ℕ
length_fault records = on (not (eqb (length records % record_bytes) 0 && leb (length records) (records_max * record_bytes))) 20

-- 21: the endpoint of a record is 0 or above D
unfoldable pub record_fault : ℕ → Record → ℕ
record_fault d r = on (not (leb 1 r.endpoint && leb r.endpoint d)) 21

unfoldable pub records_fault : ℕ → List Record → ℕ
records_fault d rs = first (map (record_fault d) rs)

-- the number of the first fault: the picture's, 19, 20, 21
unfoldable pub price_fault : List ℕ → List ℕ → ℕ
price_fault bs records =
    let p : Picture = picture_of bs in
    first (picture_fault bs ∷ flat_fault p ∷ length_fault records ∷ records_fault (endpoint_count p) (records_of records) ∷ [])
