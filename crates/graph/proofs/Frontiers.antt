-- The sweep of a frontier's rows, one after another: the locations of a word, and the words of a row. Assumes nothing.
use mathlib.Core.Bool.{Bool}
use mathlib.Core.List.{List, []}
use mathlib.Core.Path.{◌≡◌, sym, subst}
use Prim.Native.Nat.{ℕ, ◌+◌, ◌-◌, ◌*◌, ◌^◌, ◌≤◌, ◌<◌}
use lib.Bits.{bit_and}
use lib.Count.{count_trailing_zeros}
use lib.Dec.{T, eqb, eqb→eq}
use lib.ListN.{get_or}
use Rattle.rows.specs.Rows.{marked, linked_in, Narrow, in_word}
use Rattle.rows.specs.Ranges.{without, avoiding}
use Rattle.graph.specs.declared.Level.{Level}
use Rattle.graph.specs.declared.Walker.{Walker}
use Rattle.graph.specs.Sweeps.{Locations, Ready, Swept}
use Rattle.rows.proofs.Parts.{done, done_none, done_marks, marks_done}
use Rattle.rows.proofs.InWords.{WordLeft, word_begun, word_picked, word_next, none_in_zero}
use Rattle.rows.proofs.Marks.{from_word, from_first, from_part, row_picked, word_marked, narrow_from}
use Rattle.graph.proofs.Sweeps.{swept_none, swept_then, swept_as, frontier_joined}

module _ {l : Level} {before after : Walker} where
  -- nothing is left of the frontier
  all_swept : {marks : ℕ → Bool} {linked : ℕ → ℕ → Bool} (left : ℕ → Bool) → ((v : ℕ) → ¬ T (left v)) → Swept l (done marks left) linked before after → Swept l marks linked before after
  all_swept {marks} left none =
      swept_as
      (λ v t u f. record { there = done_marks marks left none u f.there; link = f.link })
      (λ v t u f. record { there = marks_done marks left none u f.there; link = f.link })

  -- a location's row is swept
  row_of : (links : List (List ℕ)) (u : ℕ) → Swept l (eqb u) (λ _. marked (get_or links u [])) before after → Swept l (eqb u) (linked_in links) before after
  unfolding linked_in
  row_of links u =
      swept_as
      (λ v t w f. record { there = f.there; link = subst (λ a. T (without l.block (marked (get_or links a [])) v)) (eqb→eq u w f.there) f.link })
      (λ v t w f. record { there = f.there; link = subst (λ a. T (without l.block (marked (get_or links a [])) v)) (sym (eqb→eq u w f.there)) f.link })

-- ---- the locations of a word

-- what is left of the word is w, and the rows of what is done are swept
pub record WordSweeping (l : Level) (links : List (List ℕ)) (word base w : ℕ) (before after : Walker) : Type 0 where
  pub left : WordLeft word base w
  pub swept : Swept l (done (in_word word base) (in_word w base)) (linked_in links) before after

module _ {l : Level} {links : List (List ℕ)} {word base : ℕ} {before : Walker} where
  pub word_sweep_begun : word < 2 ^ 64 → Ready l.words before → WordSweeping l links word base word before before
  word_sweep_begun small ready =
      record {
        left = word_begun word base small;
        swept = swept_none _ _ ready (λ v u f. done_none _ _ (λ w t. t) u f.there);
      }

  module _ {w : ℕ} {after : Walker} (s : WordSweeping l links word base w before after) where
    pub word_sweep_next : {last : Walker} → (some : w ≡ 0 → ⊥)
        → Swept l (eqb (base + count_trailing_zeros 64 w)) (λ _. marked (get_or links (base + count_trailing_zeros 64 w) [])) after last
        → WordSweeping l links word base (bit_and w (w - 1)) before last
    word_sweep_next some row =
        record {
          left = word_next s.left some;
          swept = swept_then (frontier_joined s.left.part (word_picked s.left some) (avoiding l.block (linked_in links))) s.swept (row_of links (base + count_trailing_zeros 64 w) row);
        }

    pub word_sweep_ended : w ≡ 0 → Swept l (in_word word base) (linked_in links) before after
    word_sweep_ended z = all_swept (in_word w base) (none_in_zero w base z) s.swept

-- ---- the words of a row

-- the rows of the locations of the words below i are swept
pub record RowSweeping (l : Level) (links : List (List ℕ)) (frontier : List ℕ) (i : ℕ) (before after : Walker) : Type 0 where
  pub swept : Swept l (done (marked frontier) (from_word i (marked frontier))) (linked_in links) before after

-- a word of a row of locations has locations
pub row_locations : (row : List ℕ) (i : ℕ) → Locations (marked row) → Locations (in_word (get_or row i 0) (i * 64))
row_locations row i l = record { within = λ v t. l.within v (word_marked row i v t).1 }

module _ {l : Level} {links : List (List ℕ)} {frontier : List ℕ} {before : Walker} where
  pub row_sweep_begun : Ready l.words before → RowSweeping l links frontier 0 before before
  row_sweep_begun ready = record { swept = swept_none _ _ ready (λ v u f. done_none _ _ (from_first (marked frontier)) u f.there) }

  module _ {i : ℕ} {after : Walker} (s : RowSweeping l links frontier i before after) where
    pub row_sweep_next : {last : Walker} → Swept l (in_word (get_or frontier i 0) (i * 64)) (linked_in links) after last → RowSweeping l links frontier (i + 1) before last
    row_sweep_next word =
        record { swept = swept_then (frontier_joined (from_part i (marked frontier)) (row_picked frontier i) (avoiding l.block (linked_in links))) s.swept word }

    pub row_sweep_ended : Narrow l.words frontier → l.words ≤ i → Swept l (marked frontier) (linked_in links) before after
    row_sweep_ended narrow past = all_swept (from_word i (marked frontier)) (narrow_from narrow past) s.swept
