-- `put_sections` writes the sections of the candidates and keeps the best of them. Assumes nothing.
use mathlib.Core.List.{List}
use Prim.Native.Nat.{ℕ}
use Rattle.picture.specs.Picture.{picture_of}
use Rattle.choose.specs.Sections.{WeighRows}
use Rattle.choose.proofs.Gathering.{weighed_below}
use Rattle.choose.proofs.Gathering.{SectionsDone}
use Rattle.choose.proofs.put_sections.Given as goal

abbrev pub invariant-loop-b : goal.invariant-loop-b
invariant-loop-b l = (bs : List ℕ) → WeighRows bs l.h l.weighing
    → SectionsDone l.h (picture_of bs) l.at (weighed_below (picture_of bs) l.b) l.initial.buf l.buf l.q l.best
