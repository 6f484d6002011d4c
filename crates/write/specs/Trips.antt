-- Writing and reading, one after the other. Document 02, C-11: "What is written reads back to the same lists, and any accepted picture, read
-- and written, yields its own bytes"; C-21: both of them in either edition. Assumes nothing.
use Rattle.std.specs.Prelude.{List, [], ◌∷◌, ◌++◌, ◌≡◌, ℕ, length, take, drop}
use Rattle.picture.specs.Layout.{edition_for}
use Rattle.picture.specs.Picture.{header_of}
use Rattle.picture.specs.Faults.{picture_fault}
use Rattle.write.specs.Columns.{Lists, picture_from, header_for, lists_in}
use Rattle.write.specs.Rules.{size_for}
use Rattle.write.specs.Answers.{writing, writing_numbers, written_bytes}

-- what was written: the first bytes of the buffer, up to the picture's length
unfoldable pub written_picture : Lists → List ℕ → List ℕ
written_picture l buf = take (size_for l) (written_bytes l buf)

-- "What is written reads back to the same lists": it is accepted, and says the header and the lists that were handed over
pub record ReadsBack (l : Lists) (bs : List ℕ) : Type 0 where
  pub accepted : picture_fault bs ≡ 0
  pub header : header_of bs ≡ header_for (edition_for l.edition) (picture_from l)
  pub lists : lists_in bs ≡ l

-- "any accepted picture, read and written, yields its own bytes": its lists are written, in as many bytes, and those bytes are its own
pub record WritesBack (bs buf : List ℕ) : Type 0 where
  pub number : writing_numbers (writing (lists_in bs) buf) ≡ 0 ∷ length bs ∷ []
  pub bytes : written_bytes (lists_in bs) buf ≡ bs ++ drop (length bs) buf
