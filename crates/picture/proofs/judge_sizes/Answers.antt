-- `judge_sizes` finds the first fault behind the edition's. Assumes nothing.
use mathlib.Core.Path.{◌≡◌, sym, ap, ◌∙◌}
use mathlib.Core.Bool.{not}
use mathlib.Core.List.{List}
use Prim.Native.Nat.{ℕ}
use borrow.Author.Tests.{lt-ltb, le-ltb}
use lib.Dec.{ltb}
use lib.ListN.{drop}
use Rattle.lists.specs.Lists.{first}
use Rattle.lists.proofs.Tests.{true_T}
use Rattle.picture.specs.declared.Header.{Header}
use Rattle.picture.specs.Picture.{picture_with}
use Rattle.picture.specs.Faults.{faults_with}
use Rattle.picture.specs.Inner.{Limited}
use Rattle.picture.proofs.Editions.{wide_or}
use Rattle.picture.proofs.Judging.{right_limited}
use Rattle.picture.proofs.Finding.{tells, passes}
use Rattle.picture.proofs.judge_sizes.Goals as goal
use Rattle.picture.proofs.judge_sizes.Goals.{Else-not-counts_right, Else-not-sizes_right, Else-s-size_of}

-- none of the faults from the third up to the k-th is there: the first of the rest is the first of all behind the edition's
abbrev Past : ℕ → Header → List ℕ → Type 0
Past k h s = let l = faults_with h (picture_with h s) s in first (drop k l) ≡ first (drop 3 l)

past_sizes : (c : Else-not-sizes_right) → Past 4 c.args.h c.args.s.now
unfolding faults_with
past_sizes c = passes 3 _ (ap not (sym c.sizes_right.ensures ∙ c.if-not-sizes_right.false))

past_counts : (c : Else-not-counts_right) → Past 5 c.args.h c.args.s.now
unfolding faults_with
past_counts c = passes 4 _ (ap not (sym c.counts_right.ensures ∙ c.if-not-counts_right.false)) ∙ past_sizes (goal.at.Else-not-counts_right c).Else-not-sizes_right

limited : (c : Else-not-counts_right) → Limited c.args.h
limited c =
    right_limited _ c.requires (true_T (sym c.sizes_right.ensures ∙ c.if-not-sizes_right.false))
    (true_T (sym c.counts_right.ensures ∙ c.if-not-counts_right.false))

past_size : (c : Else-s-size_of) → Past 6 c.args.h c.args.s.now
unfolding faults_with
past_size c = passes 1 _ (ap (ltb _) (sym c.size_of.ensures) ∙ le-ltb _ _ c.if-s-size_of.false) ∙ past_counts (goal.at.Else-s-size_of c).Else-not-counts_right

pub returns-then-not-sizes_right : goal.returns-then-not-sizes_right
unfolding faults_with
returns-then-not-sizes_right c = tells _ (ap not (sym c.sizes_right.ensures ∙ c.if-not-sizes_right.true))

pub returns-then-not-counts_right : goal.returns-then-not-counts_right
unfolding faults_with
returns-then-not-counts_right c =
    tells _ (ap not (sym c.counts_right.ensures ∙ c.if-not-counts_right.true))
    ∙ past_sizes (goal.at.returns-then-not-counts_right c).Else-not-sizes_right

pub size_of-requires : goal.size_of-requires
size_of-requires c = limited (goal.at.size_of-requires c).Else-not-counts_right

pub returns-then-s-size_of : goal.returns-then-s-size_of
unfolding faults_with
returns-then-s-size_of c =
    tells _ (ap (ltb _) (sym c.size_of.ensures) ∙ lt-ltb _ _ c.if-s-size_of.true)
    ∙ past_counts (goal.at.returns-then-s-size_of c).Else-not-counts_right

pub judge_body-requires : goal.judge_body-requires
judge_body-requires c = (limited (goal.at.judge_body-requires c).Else-not-counts_right, sym c.if-h-eq-LOCATION_BITS.true)

pub judge_body-requires-else-h-eq-LOCATION_BITS : goal.judge_body-requires-else-h-eq-LOCATION_BITS
judge_body-requires-else-h-eq-LOCATION_BITS c =
    (limited (goal.at.judge_body-requires-else-h-eq-LOCATION_BITS c).Else-not-counts_right, wide_or _ c.requires c.if-h-eq-LOCATION_BITS.false)

pub returns-then-h-eq-LOCATION_BITS : goal.returns-then-h-eq-LOCATION_BITS
unfolding faults_with
returns-then-h-eq-LOCATION_BITS c = c.judge_body.ensures ∙ past_size (goal.at.returns-then-h-eq-LOCATION_BITS c).Else-s-size_of

pub returns-else-h-eq-LOCATION_BITS : goal.returns-else-h-eq-LOCATION_BITS
unfolding faults_with
returns-else-h-eq-LOCATION_BITS c =
    c.judge_body-else-h-eq-LOCATION_BITS.ensures ∙ past_size (goal.at.returns-else-h-eq-LOCATION_BITS c).Else-s-size_of
