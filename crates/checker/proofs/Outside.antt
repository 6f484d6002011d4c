-- Looking for a mark outside a range that two rows have in common, word by word. Assumes nothing.
use mathlib.Core.Bool.{true, false}
use mathlib.Core.List.{List}
use mathlib.Core.Logic.{by_cases}
use mathlib.Core.Path.{◌≡◌, sym, subst}
use Prim.Native.Nat.{ℕ, ◌+◌, ◌*◌, ◌/◌, ◌^◌, ◌≤◌, ◌<◌}
use native.Mathlib.Omega.{arith}
use native.Mathlib.Decide.{dec_lt, ℕ_discrete}
use lib.Bits.{bit_and}
use lib.Count.{count_trailing_zeros}
use lib.Dec.{T}
use lib.ListN.{get_or}
use Rattle.rows.specs.declared.Range.{Range}
use Rattle.rows.specs.Rows.{marked, in_word, Narrow, Meet, row_words}
use Rattle.rows.specs.Ranges.{without, LeftOut}
use Rattle.rows.proofs.InWords.{word_begun, word_here, none_in_zero, both_words, common_words}
use Rattle.rows.proofs.Marks.{word_marked, marked_word, narrow_past}
use Rattle.rows.proofs.Ranges.{without_both, without_as}

-- the words below i have no such mark
pub record Apart (r : Range) (row other : List ℕ) (i : ℕ) : Type 0 where
  pub low : i ≤ row_words
  pub none : (v : ℕ) → v / 64 < i → T (marked row v) → ¬ T (without r (marked other) v)

module _ (r : Range) (row other : List ℕ) where
  -- rows that have no mark in common have none outside a range
  pub apart_all : Meet (marked row) (marked other) false → Meet (marked row) (without r (marked other)) false
  apart_all m = record { common = λ t. absurd t; apart = λ _ v s t. m.apart tt v s (without_both r (marked other) v t).0 }

  module _ (i : ℕ) where
    -- what word i of the rows has in common
    abbrev common : ℕ
    common = bit_and (get_or row i 0) (get_or other i 0)

    pub apart_next : {new : ℕ} → Apart r row other i → i < row_words → LeftOut r common (i * 64) new → new ≡ 0 → Apart r row other (i + 1)
    apart_next {new} a l o z =
        record {
          low = omega arith;
          none =
              λ v h s t.
              by_cases
              (ℕ_discrete (v / 64) i)
              (λ q.
              none_in_zero new (i * 64) z v
              (subst T (sym (o.marks v))
              (without_as r _ _ v (λ m. both_words (get_or row i 0) (get_or other i 0) (i * 64) v (marked_word row i v q s) (marked_word other i v q m)) t)))
              (λ ne. a.none v (omega arith) s t);
        }

    pub apart_found : {new : ℕ} → LeftOut r common (i * 64) new → new < 2 ^ 64 → (new ≡ 0 → ⊥) → Meet (marked row) (without r (marked other)) true
    apart_found {new} o small some =
        let v = i * 64 + count_trailing_zeros 64 new in
        let t = subst T (o.marks v) (word_here (word_begun new (i * 64) small) some) in
        let words = common_words (get_or row i 0) (get_or other i 0) (i * 64) v in
        record {
          common = λ _. (v, (word_marked row i v (words (without_both r (in_word common (i * 64)) v t).0).0).1, without_as r _ _ v (λ m. (word_marked other i v (words m).1).1) t);
          apart = λ x. absurd x;
        }

    pub apart_ended : Apart r row other i → {words : ℕ} → Narrow words other → words ≤ i → Meet (marked row) (without r (marked other)) false
    apart_ended a n l =
        record {
          common = λ t. absurd t;
          apart =
              λ _ v s t.
              by_cases (dec_lt (v / 64) i) (λ h. a.none v h s t) (λ h. narrow_past n l v (omega arith) (without_both r (marked other) v t).0);
        }
