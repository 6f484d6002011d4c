-- The number of the first fault of lists that are to be written, in the order of the rules: by computation. Assumes nothing.
use Rattle.std.specs.Prelude.{not, List, [], ◌∷◌, ◌++◌, ℕ, ◌^◌, eqb, ltb, length}
use Rattle.lists.specs.Lists.{on, first}
use Rattle.picture.specs.declared.Header.{Header}
use Rattle.picture.specs.declared.Edition.{Edition}
use Rattle.picture.specs.Layout.{edition_for}
use Rattle.picture.specs.Picture.{Picture}
use Rattle.picture.specs.Faults.{sizes_right, counts_right, list_faults}
use Rattle.write.specs.Columns.{Lists, picture_from, header_for}
use Rattle.write.specs.Rules.{size_for}

-- the faults of the lists, each its number or 0: 2, 3, 4, and then the reader's
unfoldable pub handed_faults : Lists → List ℕ
handed_faults l =
    let e : Edition = edition_for l.edition in
    let p : Picture = picture_from l in
    let h : Header = header_for e p in
    on (not (eqb l.edition e.number)) 2
    ∷ on (not (eqb (length l.states) (length l.near))) 3
    ∷ on (not (sizes_right h)) 3
    ∷ on (not (ltb l.near_limit (2 ^ e.location_bits))) 3
    ∷ on (not (eqb (length l.weights) (length l.protected))) 4
    ∷ on (not (counts_right h)) 4
    ∷ list_faults h p

-- the number of the first fault, or 0 where the picture is written: 9 comes last
unfoldable pub write_fault : Lists → List ℕ → ℕ
write_fault l buf = first (handed_faults l ++ (on (ltb (length buf) (size_for l)) 9 ∷ []))
