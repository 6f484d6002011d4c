-- The number of the first fault of what is asked for, in the order of the rules: by computation. Assumes nothing.
use Rattle.std.specs.Prelude.{not, ◌&&◌, List, [], ◌∷◌, ◌++◌, ℕ, eqb, ltb, length}
use Rattle.lists.specs.Lists.{on, first}
use Rattle.picture.specs.declared.Header.{Header}
use Rattle.picture.specs.Layout.{size_of}
use Rattle.picture.specs.Faults.{sizes_right, counts_right}

-- the faults of the header that is asked for, each its number or 0
unfoldable pub asked_faults : Header → List ℕ
asked_faults h =
    on (not (sizes_right h)) 3
    ∷ on (not (counts_right h)) 4
    ∷ on (eqb h.endpoints 0 && not (eqb h.service_links 0)) 4
    ∷ []

-- the number of the first fault, or 0 where the picture is made: 9 comes last
unfoldable pub generate_fault : Header → List ℕ → ℕ
generate_fault h buf = first (asked_faults h ++ (on (ltb (length buf) (size_of h)) 9 ∷ []))
