-- What a raised limit of β (document 02, C-18) and a second edition (C-21) change for bytes that are there already. What reading answers is
-- said by 01's number and values. Assumes nothing.
use Rattle.std.specs.Prelude.{List, [], ◌∷◌, ◌⊎◌, ◌≢◌, ◌≡◌, ℕ, ◌≤◌, ◌<◌}
use Rattle.picture.specs.declared.Edition.{Edition}
use Rattle.picture.specs.Layout.{block_size_max, edition1_up_to, edition1, edition2, edition_number}
use Rattle.picture.specs.Picture.{Picture, header_in, picture_with}
use Rattle.picture.specs.Faults.{fault_in}
use Rattle.picture.specs.Answers.{reading_in, reading, reading_numbers}

-- what reading by an edition answers, and the lists
abbrev pub answer_in : Edition → List ℕ → List ℕ
answer_in e bs = reading_numbers (reading_in e bs)

abbrev pub picture_in : Edition → List ℕ → Picture
picture_in e bs = picture_with (header_in e bs) bs

-- bytes that were read by edition 1 while β was at most m (8 by 01), and are read by it now
pub record Raised (m : ℕ) (bs : List ℕ) : Type 0 where
  -- "Edition 1 pictures already stored read to the same lists": what was accepted is accepted, with the same header; the lists are the same
  pub accepted : fault_in (edition1_up_to m) bs ≡ 0 → answer_in (edition1_up_to m) bs ≡ answer_in edition1 bs
  pub lists : picture_in (edition1_up_to m) bs ≡ picture_in edition1 bs
  -- "some that got 3, as β 9 with n 9, are now read": all bytes get the same answer as before, but for some that got 3, with a β above m
  pub answer : (answer_in (edition1_up_to m) bs ≡ answer_in edition1 bs)
      ⊎ ((answer_in (edition1_up_to m) bs ≡ 3 ∷ []) × (m < (header_in edition1 bs).block_size) × ((header_in edition1 bs).block_size ≤ block_size_max))

-- bytes that were read while there was one edition, and are read now: "Both editions are read and written, edition 1 as before"
pub record Joined (bs : List ℕ) : Type 0 where
  -- what does not say edition 2 is read by edition 1
  pub other : edition_number bs ≢ 2 → reading bs ≡ reading_in edition1 bs
  -- what says edition 2 is read by it, and was refused: with 1 under 7 bytes, and else with 2
  pub second : edition_number bs ≡ 2 → reading bs ≡ reading_in edition2 bs
  pub refused : edition_number bs ≡ 2 → (fault_in edition1 bs ≡ 1) ⊎ (fault_in edition1 bs ≡ 2)
