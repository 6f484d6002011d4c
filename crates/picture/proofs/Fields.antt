-- Values with their widths, as bytes hold them: what is read at each of their places. Assumes nothing.
use mathlib.Core.Path.{◌≡◌}
use mathlib.Core.List.{List, [], ◌∷◌}
use Prim.Native.Nat.{ℕ, zero, suc, ◌+◌, ◌<◌, zero-le, suc-le-suc}
use native.Mathlib.Nat.{add-zero, add_assoc, not-suc-le-zero, le_of_suc-le-suc}
use lib.ListN.{length, get_or, take}
use Rattle.lists.specs.Lists.{sum}
use Rattle.packing.specs.Packing.{fields_of}
use Rattle.packing.specs.Holding.{Holds}
use Rattle.picture.specs.Layout.{field_in}

pub fields_read : (bs ws vs : List ℕ) (q : ℕ) → Holds bs q (fields_of ws vs) → (k : ℕ) → k < length ws → k < length vs → field_in bs ws q k ≡ get_or vs k 0
unfolding fields_of Holds field_in sum
fields_read bs [] vs q h k s t = absurd (not-suc-le-zero s)
fields_read bs (w ∷ ws) [] q h k s t = absurd (not-suc-le-zero t)
fields_read bs (w ∷ ws) (v ∷ vs) q h zero s t = rw add-zero h.0
fields_read bs (w ∷ ws) (v ∷ vs) q h (suc k) s t =
    rw (← add_assoc q w (sum (take k ws))) (fields_read bs ws vs (q + w) h.1 k (le_of_suc-le-suc s) (le_of_suc-le-suc t))

-- the other way: bytes at whose places the values are read hold them
pub read_fields : (bs ws vs : List ℕ) (q : ℕ) → ((k : ℕ) → k < length ws → field_in bs ws q k ≡ get_or vs k 0) → Holds bs q (fields_of ws vs)
unfolding fields_of Holds field_in sum
read_fields bs [] vs q h = tt
read_fields bs (w ∷ ws) [] q h = tt
read_fields bs (w ∷ ws) (v ∷ vs) q h = (
  rw add-zero at (h 0 (suc-le-suc zero-le)),
  read_fields bs ws vs (q + w) (λ k s. rw (add_assoc q w (sum (take k ws))) (h (suc k) (suc-le-suc s))),
)
