-- Fields that follow what is written. Assumes nothing.
use mathlib.Core.Path.{◌≡◌, refl}
use mathlib.Core.List.{List, [], ◌∷◌, ◌++◌, append-nil}
use Prim.Native.Nat.{ℕ, ◌+◌, ◌*◌, ◌≤◌, ◌<◌, ◌^◌}
use native.Mathlib.Omega.{arith}
use native.Mathlib.Nat.{suc-mul, mul-le-mul_right}
use native.Mathlib.Numerals.{add-one}
use lib.ListN.{length, get_or, take}
use lib.Seq.{take_all, take-suc}
use Rattle.bits.proofs.Pushing.{flushed_long}
use Rattle.lists.specs.Lists.{flat}
use Rattle.lists.proofs.Growing.{flat_append}
use Rattle.packing.specs.Packing.{Field, fields_of}
use Rattle.packing.specs.Holding.{span}
use Rattle.packing.proofs.Fields.{span_append}
use Rattle.packing.proofs.Putting.{put_none, put_one, put_both, put_behind, put_same}
use Rattle.write.specs.declared.tail.Tail.{Tail}
use Rattle.write.specs.Tails.{Room, LongRoom, FieldFits, PairFits, Pushed, Follows}

-- one field, or two written as one
pub follows_one : {old new : List ℕ} {from to : Tail} {w v : ℕ} → FieldFits from w v old → Pushed old from w v new to
    → Follows old from (fields_of (w ∷ []) (v ∷ [])) new to
unfolding fields_of span
follows_one {old} {from = from} f p =
    record { end = omega (arith, p.end); put = rw p.same (put_one _ _ _ f.value (omega (arith, f.room.fits, flushed_long old from.at from.held))) }

pub follows_pair : {old new : List ℕ} {from to : Tail} {a b x y : ℕ} → PairFits from a b x y old → Pushed old from (a + b) (x * 2 ^ b + y) new to
    → Follows old from (fields_of (a ∷ b ∷ []) (x ∷ y ∷ [])) new to
unfolding fields_of span
follows_pair {old} {from = from} f p =
    record {
      end = omega (arith, p.end);
      put = rw p.same (put_both _ _ _ _ _ _ f.first f.second (omega (arith, f.room.fits, flushed_long old from.at from.held)));
    }

-- more of them
pub follows_more : {old mid new : List ℕ} {a b c : Tail} {xs ys : List Field} → Follows old a xs mid b → Follows mid b ys new c
    → Follows old a (xs ++ ys) new c
follows_more {xs = xs} {ys = ys} f g =
    record { end = omega (arith, f.end, g.end, span_append xs ys); put = put_behind _ xs ys f.put (put_same g.put f.end refl) }

-- ---- rows one behind the other, one more at a time

pub rows_begun : (old : List ℕ) (from : Tail) (rows : List (List Field)) → Follows old from (flat (take 0 rows)) old from
unfolding flat span
rows_begun old from rows = record { end = omega arith; put = put_none _ _ }

pub rows_next : {old mid new : List ℕ} {from to next : Tail} {i : ℕ} {fs : List Field} (rows : List (List Field))
    → Follows old from (flat (take i rows)) mid to → i < length rows → fs ≡ get_or rows i [] → Follows mid to fs new next
    → Follows old from (flat (take (i + 1) rows)) new next
unfolding flat
rows_next {i = i} rows f l e g =
    rw (add-one, take-suc rows i [] l, flat_append (take i rows) (get_or rows i [] ∷ []), append-nil (get_or rows i [])) (follows_more f (rw e at g))

pub rows_ended : {old new : List ℕ} {from to : Tail} {i : ℕ} (rows : List (List Field)) → Follows old from (flat (take i rows)) new to
    → length rows ≤ i → Follows old from (flat rows) new to
rows_ended {i = i} rows f l = rw (take_all i rows l) at f

-- row i of n rows has its room
pub row_room : {old new : List ℕ} {from to : Tail} {n w i : ℕ} → LongRoom from (n * w) old → i < n → to.at ≡ from.at + i * w
    → length new ≡ length old → Room to w new
row_room {w = w} {i = i} r l e s =
    let most = mul-le-mul_right w l in
    record { fits = omega (arith, r.fits, suc-mul i w, most); low = omega (arith, r.low, suc-mul i w, most) }
