-- The rules that lists keep where they are written: the reader's, in the reader's order. Document 02, C-11: "Values that don't fit, or that
-- the reader would refuse, get the reader's number, in the reader's order, and a short buffer gets 9 last"; C-21: "The writer is told the
-- edition (others get 2 ..), and a κ too wide for its header gets 3". Assumes nothing.
use Rattle.std.specs.Prelude.{List, [], ◌∷◌, ◌++◌, ◌≡◌, ℕ, ◌^◌, ◌≤◌, ◌<◌, length}
use Rattle.lists.specs.Rules.{Rule}
use Rattle.picture.specs.declared.Header.{Header}
use Rattle.picture.specs.declared.Edition.{Edition}
use Rattle.picture.specs.Layout.{edition_for, size_of}
use Rattle.picture.specs.Picture.{Picture}
use Rattle.picture.specs.Rules.{Sizes, Counts, list_rules}
use Rattle.write.specs.Columns.{Lists, picture_from, header_for}

-- the bytes that the picture of the lists takes
unfoldable pub size_for : Lists → ℕ
size_for l = size_of (header_for (edition_for l.edition) (picture_from l))

-- the rules of the lists with their numbers, in the order in which they are judged. Columns of unequal length are no list
unfoldable pub handed_rules : Lists → List Rule
handed_rules l =
    let e : Edition = edition_for l.edition in
    let p : Picture = picture_from l in
    let h : Header = header_for e p in
    record { number = 2; holds = l.edition ≡ e.number }
    ∷ record { number = 3; holds = length l.states ≡ length l.near }
    ∷ record { number = 3; holds = Sizes h }
    ∷ record { number = 3; holds = l.near_limit < 2 ^ e.location_bits }
    ∷ record { number = 4; holds = length l.weights ≡ length l.protected }
    ∷ record { number = 4; holds = Counts h }
    ∷ list_rules h p

-- and the buffer's, last
unfoldable pub write_rules : Lists → List ℕ → List Rule
write_rules l buf = handed_rules l ++ (record { number = 9; holds = size_for l ≤ length buf } ∷ [])
