-- What generating answers, and the buffer that it leaves. Assumes nothing.
use Rattle.std.specs.Prelude.{List, ◌≡◌, ℕ, Result}
use Rattle.picture.specs.declared.Header.{Header}
use Rattle.picture.specs.declared.refusals.Refusal.{Refusal}
use Rattle.picture.specs.Refusals.{answer_of}
use Rattle.picture.specs.Layout.{size_of}
use Rattle.picture.specs.Picture.{header_of, picture_of}
use Rattle.picture.specs.Faults.{picture_fault}
use Rattle.write.specs.Fields.{picture_bytes}
use Rattle.write.specs.Answers.{filled, Fills}
use Rattle.generator.specs.Generated.{generated}
use Rattle.generator.specs.Faults.{generate_fault}

-- what generating answers: "its length is returned"
unfoldable pub generating : Header → List ℕ → Result ℕ Refusal
generating h buf = answer_of (generate_fault h buf) (size_of h)

-- the bytes of the picture, packed as write packs every other
unfoldable pub generated_picture : ℕ → Header → List ℕ
generated_picture seed h = picture_bytes h.edition (generated seed h)

-- the buffer at exit: the picture in its first bytes; "bytes beyond stay unchanged", and after a refusal all
unfoldable pub generated_bytes : ℕ → Header → List ℕ → List ℕ
generated_bytes seed h buf = filled (generate_fault h buf) (size_of h) (generated_picture seed h) buf

-- what the call ensures, as a call that writes a picture does: its answer, 01's number and value of it, and the buffer at exit
abbrev pub Generates : ℕ → Header → List ℕ → Result ℕ Refusal → List ℕ → Type 0
Generates seed h buf = Fills (generate_fault h buf) (size_of h) (generated_picture seed h) buf

-- "The reader accepts each picture made": with the header that was asked for, and with the lists that were drawn
pub record ReadsAsDrawn (seed : ℕ) (h : Header) (bs : List ℕ) : Type 0 where
  pub accepted : picture_fault bs ≡ 0
  pub header : header_of bs ≡ h
  pub picture : picture_of bs ≡ generated seed h
