-- What reading answers. Assumes nothing.
use Rattle.std.specs.Prelude.{List, [], ◌∷◌, ℕ, Result}
use Rattle.picture.specs.declared.Edition.{Edition}
use Rattle.picture.specs.declared.Header.{Header}
use Rattle.picture.specs.declared.refusals.Refusal.{Refusal}
use Rattle.picture.specs.Refusals.{answer_of, answer_numbers}
use Rattle.picture.specs.Layout.{edition_of}
use Rattle.picture.specs.Picture.{header_in}
use Rattle.picture.specs.Faults.{fault_in}

-- what reading any bytes by an edition answers: the header's numbers, or the first fault
abbrev pub reading_in : Edition → List ℕ → Result Header Refusal
reading_in e bs = answer_of (fault_in e bs) (header_in e bs)

-- what reading any bytes answers
unfoldable pub reading : List ℕ → Result Header Refusal
reading bs = reading_in (edition_of bs) bs

-- the edition's number, β, n, κ, D, L, S
unfoldable pub header_values : Header → List ℕ
header_values h = h.edition.number ∷ h.block_size ∷ h.slots ∷ h.near_limit ∷ h.endpoints ∷ h.links ∷ h.service_links ∷ []

-- accepted is 0, with the header's numbers; a refusal gives its number and nothing else
abbrev pub reading_numbers : Result Header Refusal → List ℕ
reading_numbers = answer_numbers header_values
