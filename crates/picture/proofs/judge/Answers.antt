-- `judge` finds the first fault by a header of any bytes. Assumes nothing.
use mathlib.Core.Path.{◌≡◌, sym, ap, ◌∙◌}
use mathlib.Core.Bool.{not}
use mathlib.Core.List.{List}
use Prim.Native.Nat.{ℕ, ◌/◌}
use borrow.Author.Tests.{lt-ltb, le-ltb, eq-eqb, ne_eqb}
use lib.Dec.{ltb}
use lib.ListN.{length, drop}
use Rattle.lists.specs.Lists.{first}
use Rattle.picture.specs.Layout.{edition_number, header_bytes}
use Rattle.picture.specs.Picture.{picture_with}
use Rattle.picture.specs.Faults.{faults_with}
use Rattle.picture.proofs.Finding.{tells, passes}
use Rattle.picture.proofs.judge.Goals as goal
use Rattle.picture.proofs.judge.Goals.{After-field, After-slots_at, Else-field-h, Else-s-lt-LEAST_BYTES, Else-s-slots_at, Start}

-- the bytes, and the faults that are judged, in their order
abbrev bytes : Start → List ℕ
bytes c = c.args.s.now

abbrev faults : Start → List ℕ
faults c = faults_with c.args.h (picture_with c.args.h (bytes c)) (bytes c)

-- none of the first k is a fault: the first of the rest is the first of all
abbrev Past : ℕ → Start → Type 0
Past k c = first (drop k (faults c)) ≡ first (faults c)

past_length : (c : Else-s-lt-LEAST_BYTES) → Past 1 (goal.at.Else-s-lt-LEAST_BYTES c).Start
unfolding faults_with
past_length c = passes 1 _ (le-ltb _ _ c.if-s-lt-LEAST_BYTES.false)

-- the edition's number as it was read
number : (c : After-field) → c.field.result ≡ edition_number (bytes (goal.at.After-field c).Start)
unfolding edition_number
number c = c.field.ensures

past_edition : (c : Else-field-h) → Past 2 (goal.at.Else-field-h c).Start
unfolding faults_with
past_edition c =
    passes 2 _ (ap not (eq-eqb _ _ (sym (number (goal.at.Else-field-h c).After-field) ∙ c.if-field-h.false)))
    ∙ past_length (goal.at.Else-field-h c).Else-s-lt-LEAST_BYTES

-- the test of the header's length
asked : (c : After-slots_at) → ltb (length (bytes (goal.at.After-slots_at c).Start)) (header_bytes c.args.h.edition) ≡ ltb (length (bytes (goal.at.After-slots_at c).Start)) (c.slots_at.result / 8)
unfolding header_bytes
asked c = ap (λ (p : ℕ). ltb (length (bytes (goal.at.After-slots_at c).Start)) (p / 8)) (sym c.slots_at.ensures)

past_header : (c : Else-s-slots_at) → Past 3 (goal.at.Else-s-slots_at c).Start
unfolding faults_with
past_header c =
    passes 1 _ (asked (goal.at.Else-s-slots_at c).After-slots_at ∙ le-ltb _ _ c.if-s-slots_at.false) ∙ past_edition (goal.at.Else-s-slots_at c).Else-field-h

pub returns-then-s-lt-LEAST_BYTES : goal.returns-then-s-lt-LEAST_BYTES
unfolding faults_with
returns-then-s-lt-LEAST_BYTES c = tells _ (lt-ltb _ _ c.if-s-lt-LEAST_BYTES.true)

pub returns-then-field-h : goal.returns-then-field-h
unfolding faults_with
returns-then-field-h c =
    tells _ (ap not (ne_eqb _ _ (λ z. c.if-field-h.true (number (goal.at.returns-then-field-h c).After-field ∙ z))))
    ∙ past_length (goal.at.returns-then-field-h c).Else-s-lt-LEAST_BYTES

pub returns-then-s-slots_at : goal.returns-then-s-slots_at
unfolding faults_with
returns-then-s-slots_at c =
    tells _ (asked (goal.at.returns-then-s-slots_at c).After-slots_at ∙ lt-ltb _ _ c.if-s-slots_at.true)
    ∙ past_edition (goal.at.returns-then-s-slots_at c).Else-field-h

pub returns : goal.returns
returns c = c.judge_sizes.ensures ∙ past_header (goal.at.returns c).Else-s-slots_at
