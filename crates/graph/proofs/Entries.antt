-- The entries that the slots of a word get, one after another. Assumes nothing.
use mathlib.Core.Bool.{Bool}
use mathlib.Core.List.{List}
use mathlib.Core.Logic.{⊎_elim, by_cases}
use mathlib.Core.Path.{◌≡◌, refl, sym, ◌∙◌}
use Prim.Native.Nat.{ℕ, ◌+◌, ◌-◌, ◌^◌, ◌≤◌, ◌<◌}
use native.Mathlib.Omega.{arith}
use native.Mathlib.Decide.{ℕ_discrete}
use lib.Bits.{bit_and}
use lib.Count.{count_trailing_zeros}
use lib.Dec.{T, eqb, eqb→eq}
use lib.ListN.{length, get_or, set, length-set}
use lib.Seq.{get_or-set_same, get_or-set_other}
use Rattle.rows.specs.Rows.{in_word, slots_max}
use Rattle.graph.specs.declared.Forest.{Forest}
use Rattle.graph.specs.Sweeps.{Locations, Whole, Entered}
use Rattle.lists.proofs.Tests.{eq_T}
use Rattle.rows.proofs.Parts.{done, Union, done_none, done_more, done_marks, marks_done}
use Rattle.rows.proofs.InWords.{WordLeft, word_begun, word_here, word_picked, word_next, none_in_zero}

-- nothing is marked: no entry is made
pub entered_none : {marks : ℕ → Bool} {u d : ℕ} {f : Forest} → Whole f → ((v : ℕ) → ¬ T (marks v)) → Entered marks u d f f
entered_none whole none =
    record {
      whole = whole;
      new_parent = λ v t. absurd (none v t);
      new_depth = λ v t. absurd (none v t);
      old_parent = λ v n. refl;
      old_depth = λ v n. refl;
    }

-- the location a gets the parent u and the depth d
abbrev pub with_entry : (f : Forest) (a u d : ℕ) → Forest
with_entry f a u d = record f { parent = set f.parent a u; depth = set f.depth a d }

module _ {u d : ℕ} {before after : Forest} where
  -- one more entry
  entered_more : (a : ℕ) {marks marks' : ℕ → Bool} → Union marks (eqb a) marks' → a ≤ slots_max
      → Entered marks u d before after → Entered marks' u d before (with_entry after a u d)
  entered_more a {marks} {marks'} both l e =
      record {
        whole = record { parents = simp length-set e.whole.parents; depths = simp length-set e.whole.depths };
        new_parent = λ v t. new after.parent u (omega (arith, e.whole.parents)) v (e.new_parent v) t;
        new_depth = λ v t. new after.depth d (omega (arith, e.whole.depths)) v (e.new_depth v) t;
        old_parent = λ v n. get_or-set_other after.parent a v u 0 (other v n) ∙ e.old_parent v (λ t. n (both.of_before v t));
        old_depth = λ v n. get_or-set_other after.depth a v d 0 (other v n) ∙ e.old_depth v (λ t. n (both.of_before v t));
      }
    where
      other : (v : ℕ) → ¬ T (marks' v) → v ≡ a → ⊥
      other v n q = n (both.of_new v (eq_T a v (sym q)))

      new : (xs : List ℕ) (x : ℕ) → a < length xs → (v : ℕ) → (T (marks v) → get_or xs v 0 ≡ x) → T (marks' v) → get_or (set xs a x) v 0 ≡ x
      new xs x l v old t =
          by_cases
          (ℕ_discrete v a)
          (λ q. rw q (get_or-set_same xs a x 0 l))
          (λ ne. get_or-set_other xs a v x 0 ne ∙ ⊎_elim old (λ n. absurd (ne (sym (eqb→eq a v n)))) (both.splits v t))

-- the next mark of a word that marks locations alone is a location
pub next_inside : {word base w : ℕ} → Locations (in_word word base) → WordLeft word base w → (w ≡ 0 → ⊥) → base + count_trailing_zeros 64 w ≤ slots_max
next_inside l left some = l.within _ (word_here left some)

-- what is left of the word is w, and what is done of it is entered
pub record Entering (word base u d w : ℕ) (before after : Forest) : Type 0 where
  pub left : WordLeft word base w
  pub entries : Entered (done (in_word word base) (in_word w base)) u d before after

module _ {word base u d : ℕ} {before : Forest} where
  pub begun : word < 2 ^ 64 → Whole before → Entering word base u d word before before
  begun small whole =
      record {
        left = word_begun word base small;
        entries = entered_none whole (done_none (in_word word base) (in_word word base) (λ v t. t));
      }

  module _ {w : ℕ} {after : Forest} (s : Entering word base u d w before after) where
    pub hit : Locations (in_word word base) → (some : w ≡ 0 → ⊥)
        → Entering word base u d (bit_and w (w - 1)) before (with_entry after (base + count_trailing_zeros 64 w) u d)
    hit l some =
        record {
          left = word_next s.left some;
          entries = entered_more (base + count_trailing_zeros 64 w) (done_more s.left.part (word_picked s.left some)) (next_inside l s.left some) s.entries;
        }

    pub ended : w ≡ 0 → Entered (in_word word base) u d before after
    ended z =
        record {
          whole = s.entries.whole;
          new_parent = λ v t. s.entries.new_parent v (back v t);
          new_depth = λ v t. s.entries.new_depth v (back v t);
          old_parent = λ v n. s.entries.old_parent v (λ t. n (to v t));
          old_depth = λ v n. s.entries.old_depth v (λ t. n (to v t));
        }
      where
        to : (v : ℕ) → T (done (in_word word base) (in_word w base) v) → T (in_word word base v)
        to = done_marks (in_word word base) (in_word w base) (none_in_zero w base z)

        back : (v : ℕ) → T (in_word word base v) → T (done (in_word word base) (in_word w base) v)
        back = marks_done (in_word word base) (in_word w base) (none_in_zero w base z)
