-- `judge` finds the first fault of the lists. Assumes nothing.
use mathlib.Core.Path.{◌≡◌, sym, ap, ◌∙◌, subst}
use mathlib.Core.Bool.{not}
use Prim.Native.Nat.{ℕ, ◌*◌, ◌%◌, ◌^◌, ◌≤◌, ◌<◌}
use native.Mathlib.Omega.{arith}
use lib.ListN.{length, drop}
use borrow.Author.Tests.{lt-ltb, le-ltb, eq-eqb, ne_eqb}
use Rattle.bits.proofs.Masks.{shifted_one}
use Rattle.lists.specs.Lists.{first}
use Rattle.picture.specs.declared.Header.{Header}
use Rattle.picture.specs.Faults.{sizes_right, counts_right}
use Rattle.picture.proofs.Editions.{Widths, widths}
use Rattle.picture.proofs.Finding.{tells, passes}
use Rattle.write.specs.Columns.{Lists, handed}
use Rattle.write.specs.Faults.{handed_faults}
use Rattle.write.specs.Inner.{columns_header, under}
use Rattle.write.proofs.Right.{edition_in, header_from}
use Rattle.write.proofs.Judging.{sizes_even, header_even, column_faults, lists_even}
use Rattle.write.proofs.judge.Goals as goal
use Rattle.write.proofs.judge.Goals.{After-counts_right, After-sizes_right, Else-h, Else-not-counts_right, Else-not-sizes_right, Else-columns}
use Rattle.write.proofs.judge.Goals.{Else-columns-2, Start}

-- the lists that are judged
abbrev lists : Start → Lists
lists s = under s.args.h s.args.columns

-- none of the first k is a fault: the first of the rest is the first of all
abbrev Past : ℕ → Start → Type 0
Past k s = first (drop k (handed_faults (lists s))) ≡ first (handed_faults (lists s))

-- the header that is judged, and its edition
header : (s : Start) → s.args.h ≡ columns_header (lists s)
header s = s.requires.h_value

edition : (s : Start) → Widths s.args.h.edition
edition s = widths s.requires.known

past_edition : (s : Start) → Past 1 s
unfolding handed_faults columns_header under handed
past_edition s = passes 2 _ (ap not (eq-eqb _ _ (ap (λ (h : Header). h.edition.number) (header s))))

-- the columns that were found to be even
slots : (c : Else-columns) → let l = lists (goal.at.Else-columns c).Start in length l.states ≡ length l.near
unfolding under handed
slots c = c.if-columns.false

past_slots : (c : Else-columns) → Past 2 (goal.at.Else-columns c).Start
unfolding handed_faults
past_slots c = passes 3 _ (ap not (eq-eqb _ _ (slots c))) ∙ past_edition (goal.at.Else-columns c).Start

sizes : (c : After-sizes_right) → sizes_right (header_from (lists (goal.at.After-sizes_right c).Start)) ≡ c.sizes_right.result
sizes c =
    let at = goal.at.After-sizes_right c in
    sym (c.sizes_right.ensures ∙ ap sizes_right (header at.Start) ∙ sizes_even (lists at.Start) (slots at.Else-columns))

past_sizes : (c : Else-not-sizes_right) → Past 3 (goal.at.Else-not-sizes_right c).Start
unfolding handed_faults
past_sizes c =
    passes 3 _ (ap not (sizes (goal.at.Else-not-sizes_right c).After-sizes_right ∙ c.if-not-sizes_right.false))
    ∙ past_slots (goal.at.Else-not-sizes_right c).Else-columns

-- what κ is compared with
limit : (s : Start) → 1 * 2 ^ s.args.h.edition.location_bits % 2 ^ 64 ≡ 2 ^ (edition_in (lists s)).location_bits
unfolding columns_header
limit s = shifted_one _ (omega (arith, edition s)) ∙ ap (λ (h : Header). 2 ^ h.edition.location_bits) (header s)

past_near : (c : Else-h) → Past 4 (goal.at.Else-h c).Start
unfolding handed_faults under handed
past_near c =
    passes 3 _ (ap not (lt-ltb _ _ (subst (λ (n : ℕ). c.args.h.near_limit < n) (limit (goal.at.Else-h c).Start) c.if-h.false)))
    ∙ past_sizes (goal.at.Else-h c).Else-not-sizes_right

endpoints : (c : Else-columns-2) → let l = lists (goal.at.Else-columns-2 c).Start in length l.weights ≡ length l.protected
unfolding under handed
endpoints c = c.if-columns-2.false

past_endpoints : (c : Else-columns-2) → Past 5 (goal.at.Else-columns-2 c).Start
unfolding handed_faults
past_endpoints c = passes 4 _ (ap not (eq-eqb _ _ (endpoints c))) ∙ past_near (goal.at.Else-columns-2 c).Else-h

-- behind the fourth test the header is the picture's
whole : (c : Else-columns-2) → c.args.h ≡ header_from (lists (goal.at.Else-columns-2 c).Start)
whole c =
    header (goal.at.Else-columns-2 c).Start
    ∙ header_even (lists (goal.at.Else-columns-2 c).Start) (slots (goal.at.Else-columns-2 c).Else-columns) (endpoints c)

counts : (c : After-counts_right) → counts_right (header_from (lists (goal.at.After-counts_right c).Start)) ≡ c.counts_right.result
counts c = sym (c.counts_right.ensures ∙ ap counts_right (whole (goal.at.After-counts_right c).Else-columns-2))

past_counts : (c : Else-not-counts_right) → Past 6 (goal.at.Else-not-counts_right c).Start
unfolding handed_faults
past_counts c =
    passes 4 _ (ap not (counts (goal.at.Else-not-counts_right c).After-counts_right ∙ c.if-not-counts_right.false))
    ∙ past_endpoints (goal.at.Else-not-counts_right c).Else-columns-2

pub returns-then-columns : goal.returns-then-columns
unfolding handed_faults under handed
returns-then-columns c = tells _ (ap not (ne_eqb _ _ c.if-columns.true)) ∙ past_edition (goal.at.returns-then-columns c).Start

pub returns-then-not-sizes_right : goal.returns-then-not-sizes_right
unfolding handed_faults
returns-then-not-sizes_right c =
    tells _ (ap not (sizes (goal.at.returns-then-not-sizes_right c).After-sizes_right ∙ c.if-not-sizes_right.true))
    ∙ past_slots (goal.at.returns-then-not-sizes_right c).Else-columns

pub returns-then-h : goal.returns-then-h
unfolding handed_faults under handed
returns-then-h c =
    tells _ (ap not (le-ltb _ _ (subst (λ (n : ℕ). n ≤ c.args.h.near_limit) (limit (goal.at.returns-then-h c).Start) c.if-h.true)))
    ∙ past_sizes (goal.at.returns-then-h c).Else-not-sizes_right

pub returns-then-columns-2 : goal.returns-then-columns-2
unfolding handed_faults under handed
returns-then-columns-2 c =
    tells _ (ap not (ne_eqb _ _ c.if-columns-2.true)) ∙ past_near (goal.at.returns-then-columns-2 c).Else-h

pub returns-then-not-counts_right : goal.returns-then-not-counts_right
unfolding handed_faults
returns-then-not-counts_right c =
    tells _ (ap not (counts (goal.at.returns-then-not-counts_right c).After-counts_right ∙ c.if-not-counts_right.true))
    ∙ past_endpoints (goal.at.returns-then-not-counts_right c).Else-columns-2

pub returns : goal.returns
unfolding handed_faults under handed
returns c =
    let l = lists (goal.at.returns c).Start in
    let same =
    ap (λ (h : Header). first (column_faults l h)) (header (goal.at.returns c).Start)
    ∙ ap first (lists_even l (slots (goal.at.returns c).Else-columns) (endpoints (goal.at.returns c).Else-columns-2)) in
    c.judge_lists.ensures ∙ same ∙ past_counts (goal.at.returns c).Else-not-counts_right
