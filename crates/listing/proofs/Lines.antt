-- The lines of a listing, one after the other. Assumes nothing.
use mathlib.Core.Path.{◌≡◌, refl}
use mathlib.Core.Logic.{◌≢◌}
use mathlib.Core.List.{List, ◌++◌}
use Prim.Native.Nat.{ℕ, zero, suc, ◌+◌, ◌*◌, ◌≤◌}
use native.Mathlib.Omega.{arith}
use native.Mathlib.Nat.{zero-add}
use native.Mathlib.Numerals.{add-one}
use lib.ListN.{length, length-append}
use lib.Chars.{codes}
use Rattle.lists.specs.Lists.{range, flat}
use Rattle.lists.proofs.Growing.{range_more, flat_map_more}
use Rattle.picture.specs.declared.Edition.{Edition}
use Rattle.evidence.specs.declared.Head.{Head}
use Rattle.evidence.specs.Contents.{head_in, section_in}
use Rattle.evidence.proofs.Places.{head_below, section_below}
use Rattle.listing.specs.declared.Text.{Text}
use Rattle.listing.specs.Text.{Puts}
use Rattle.listing.specs.Listing.{served_word, block_word, lost_word, mark_word, choose_word, none_word, line_end, phrase, served_line, block_line, choice_line}
use Rattle.listing.specs.ByEvidence.{section_lines, evidence_lines}
use Rattle.listing.proofs.Texts.{text_none, text_then}
use Rattle.listing.proofs.Decimals.{phrase_short}

-- the line of a choice that names no block, byte by byte
pub choice_none : (verdict block loss : ℕ) → verdict ≡ 0 → choice_line verdict block loss ≡ codes "choose none\n"
unfolding choice_line choose_word none_word line_end
choice_none verdict block loss e = rw e

-- the line of a choice that names a block
pub choice_named : {verdict : ℕ} → verdict ≢ 0 → (block loss : ℕ) → choice_line verdict block loss ≡ phrase choose_word block ++ (phrase lost_word loss ++ line_end)
unfolding choice_line
choice_named {verdict = zero} n block loss = absurd (n refl)
choice_named {verdict = suc k} n block loss = refl

module _ (e : Edition) (n : ℕ) (ev : List ℕ) where
  -- the line of section i
  abbrev line : ℕ → List ℕ
  line i = block_line (section_in e n ev i)

  -- three words of six bytes, three numbers of eight digits and the end of the line are 43 bytes; the served weight takes fewer
  served_short : length (served_line (head_in ev).served) ≤ 43
  unfolding served_line served_word line_end
  served_short = simp length-append (omega (arith, phrase_short served_word (head_in ev).served (omega (arith, head_below ev))))

  line_short : (i : ℕ) → length (line i) ≤ 43
  unfolding block_line block_word lost_word mark_word line_end
  line_short i =
      let w = section_in e n ev i in
      let b = section_below ev e n i in
      let block = phrase_short block_word w.block (omega arith) in
      let loss = phrase_short lost_word w.loss (omega arith) in
      let mark = phrase_short mark_word w.mark (omega arith) in
      simp length-append (omega arith)

  -- the lines of the first i sections are put behind the served weight
  pub record Telling (old now : Text) (i : ℕ) : Type 0 where
    pub puts : Puts old (section_lines e n ev i) now
    pub low : now.end ≤ old.end + 43 * i

  -- no section is told yet
  pub telling_begun : (t : Text) → t.end ≤ length t.buf.now → Telling t t 0
  unfolding section_lines range flat
  telling_begun t l = record { puts = text_none t l; low = omega arith }

  -- a section more is a line more
  sections_more : (i : ℕ) → section_lines e n ev (i + 1) ≡ section_lines e n ev i ++ line i
  unfolding section_lines
  sections_more i = rw (add-one i, range_more 0 i, zero-add i) (flat_map_more line (range 0 i) i)

  pub telling_next : {old now next : Text} (i : ℕ) → Telling old now i → Puts now (block_line (section_in e n ev i)) next
      → Telling old next (i + 1)
  telling_next i p t = record { puts = rw (sections_more i) (text_then p.puts t); low = omega (arith, p.low, t.ends, line_short i) }

  -- the served weight takes no more than a section does
  pub served_low : {old new : Text} → Puts old (served_line (head_in ev).served) new → new.end ≤ old.end + 43
  served_low t = omega (arith, t.ends, served_short)

  -- all sections are told, and the choice
  pub telling_ended : {head : Head} {start served now new : Text} {i : ℕ} → head ≡ head_in ev
      → Puts start (served_line head.served) served → Telling served now i → i ≡ head.count
      → Puts now (choice_line head.verdict head.block head.loss) new → Puts start (evidence_lines e n ev) new
  unfolding evidence_lines
  telling_ended e served p all choice = rw e at (text_then served (text_then (rw all at p.puts) choice))
