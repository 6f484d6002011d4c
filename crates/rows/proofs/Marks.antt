-- Marks in a row of words, and the loop that takes them word by word. Assumes nothing.
use mathlib.Core.Bool.{Bool, false, not, xor, ◌&&◌, ◌||◌}
use mathlib.Core.List.{List, []}
use mathlib.Core.Logic.{inl, inr, by_cases}
use mathlib.Core.Path.{◌≡◌, refl, sym, ap, ap₂, ◌∙◌, subst}
use Prim.Native.Nat.{ℕ, ◌+◌, ◌-◌, ◌*◌, ◌/◌, ◌%◌, ◌^◌, ◌≤◌, ◌<◌}
use native.Mathlib.Omega.{arith}
use native.Mathlib.Decide.{dec_lt, ℕ_discrete}
use native.Mathlib.Nat.{lt_of_le_of_lt}
use lib.Bits.{bit_and, bit_or, bit_xor, and_le_l, and_le_r, or_add_and}
use borrow.Author.Count.{below_more}
use lib.Count.{count_trailing_zeros}
use lib.Dec.{T, leb, eqb, eqb→eq, T_not}
use lib.ListN.{length, get_or, set, replicate, length-set}
use lib.Seq.{get_or-set_same, get_or-set_other}
use Rattle.std.specs.Int.{w64, bit_at, bit_not}
use Rattle.std.proofs.lemmas.Bool.Decides.{nat_tests}
use Rattle.std.proofs.lemmas.Nat.Bits.{bit_at-zero}
use Rattle.rows.specs.Rows.{marked, linked_in, words_for, Narrow, With, Linked, Differ, Minus, Meet, Made, slots_max, row_words, in_word}
use Rattle.lists.proofs.Tests.{and_T, eq_T, is_false, not_not_T}
use Rattle.lists.proofs.Picks.{copies_at}
use Rattle.rows.proofs.Digits.{digit_and, digit_or, digit_xor, digit_not, digit_shifted}
use Rattle.rows.proofs.InWords.{in_word_lem, word_in, both_words, common_words, none_in_zero, word_begun, word_here}
use Rattle.rows.proofs.Parts.{done_split, Part, Picked}

-- a mark is a digit that is set
pub mark_digit : (row : List ℕ) (v : ℕ) → T (marked row v) → bit_at (get_or row (v / 64) 0) (v % 64) ≡ 1
unfolding marked
mark_digit row v t = eqb→eq (bit_at (get_or row (v / 64) 0) (v % 64)) 1 t

pub digit_mark : (row : List ℕ) (v : ℕ) → bit_at (get_or row (v / 64) 0) (v % 64) ≡ 1 → T (marked row v)
unfolding marked
digit_mark row v e = eq_T (bit_at (get_or row (v / 64) 0) (v % 64)) 1 e

-- the mark of a location that falls in word i
pub mark_is : (row : List ℕ) (i v : ℕ) → v / 64 ≡ i → marked row v ≡ eqb (bit_at (get_or row i 0) (v % 64)) 1
unfolding marked
mark_is row i v e = rw e

-- the same of a word alone
pub word_is : (word i v : ℕ) → v / 64 ≡ i → in_word word (i * 64) v ≡ eqb (bit_at word (v % 64)) 1
unfolding in_word
word_is word i v e = let m : v - i * 64 ≡ v % 64 = omega arith in rw m (grind (arith, nat_tests))

-- a location is marked in the word of a row that it falls in
pub word_marked : (row : List ℕ) (i v : ℕ) → T (in_word (get_or row i 0) (i * 64) v) → (v / 64 ≡ i) × T (marked row v)
word_marked row i v t =
    let s = in_word_lem (get_or row i 0) (i * 64) v t in
    let e : v / 64 ≡ i = omega (arith, s.from, s.to) in
    let m : v - i * 64 ≡ v % 64 = omega (arith, s.from, s.to) in
    (e, digit_mark row v (rw (e, ← m) s.digit))

pub marked_word : (row : List ℕ) (i v : ℕ) → v / 64 ≡ i → T (marked row v) → T (in_word (get_or row i 0) (i * 64) v)
marked_word row i v e t =
    let m : v - i * 64 ≡ v % 64 = omega arith in
    word_in (get_or row i 0) (i * 64) v (record { from = omega arith; to = omega arith; digit = rw (m, ← e) (mark_digit row v t) })

-- the marks from word i on
unfoldable pub from_word : ℕ → (ℕ → Bool) → ℕ → Bool
from_word i marks v = leb i (v / 64) && marks v

module _ (i : ℕ) (marks : ℕ → Bool) (v : ℕ) where
  pub from_word_lem : T (from_word i marks v) → (i ≤ v / 64) × T (marks v)
  unfolding from_word
  from_word_lem t = (grind (arith, nat_tests), grind (arith, nat_tests))

  pub word_from : i ≤ v / 64 → T (marks v) → T (from_word i marks v)
  unfolding from_word
  word_from l t = grind (arith, nat_tests)

-- a location whose word is 0 is not marked
word_none : (row : List ℕ) (v : ℕ) → get_or row (v / 64) 0 ≡ 0 → ¬ T (marked row v)
word_none row v z t = omega (arith, bit_at-zero (v % 64), rw z at (mark_digit row v t))

-- from the first word on all marks are left
pub from_first : (marks : ℕ → Bool) (v : ℕ) → T (marks v) → T (from_word 0 marks v)
from_first marks v t = word_from 0 marks v (omega arith) t

-- the marks of later words are above those of the words before
pub from_part : (i : ℕ) (marks : ℕ → Bool) → Part marks (from_word i marks)
from_part i marks =
    record {
      part = λ v t. (from_word_lem i marks v t).1;
      rising =
          λ a b t r.
          let s = done_split marks (from_word i marks) a t in
          let l : a / 64 < i = by_cases (dec_lt (a / 64) i) (λ l. l) (λ nl. absurd (s.1 (word_from i marks a (omega arith) s.0))) in
          omega (arith, (from_word_lem i marks b r).0);
    }

-- a word of a row is taken from its marks
pub row_picked : (row : List ℕ) (i : ℕ) → Picked (from_word i (marked row)) (in_word (get_or row i 0) (i * 64)) (from_word (i + 1) (marked row))
row_picked row i =
    record {
      splits =
          λ v t.
          let s = from_word_lem i (marked row) v t in
          by_cases
          (ℕ_discrete (v / 64) i)
          (λ e. inl (marked_word row i v e s.1))
          (λ ne. inr (word_from (i + 1) (marked row) v (omega (arith, s.0)) s.1));
      of_new = λ v t. let s = word_marked row i v t in word_from i (marked row) v (omega (arith, s.0)) s.1;
      of_rest = λ v t. let s = from_word_lem (i + 1) (marked row) v t in word_from i (marked row) v (omega (arith, s.0)) s.1;
      rising = λ a b t r. omega (arith, (word_marked row i a t).0, (from_word_lem (i + 1) (marked row) b r).0);
    }

-- ---- rows that are stored to, compared and made

-- the marks of a row after a store
module _ (row : List ℕ) (i w : ℕ) where
  pub mark_here : i < length row → (v : ℕ) → v / 64 ≡ i → marked (set row i w) v ≡ eqb (bit_at w (v % 64)) 1
  mark_here l v e = mark_is (set row i w) i v e ∙ rw (get_or-set_same row i w 0 l)

  pub mark_other : (v : ℕ) → (v / 64 ≡ i → ⊥) → marked (set row i w) v ≡ marked row v
  unfolding marked
  mark_other v ne = rw (get_or-set_other row i (v / 64) w 0 ne)

-- ---- rows with marks in their first words alone

-- marks of the locations 0 to n are in the words that these take
pub narrow_for : (n : ℕ) (row : List ℕ) → n ≤ slots_max → ((v : ℕ) → T (marked row v) → v ≤ n) → Narrow (words_for n) row
unfolding words_for
narrow_for n row most within = record { most = omega arith; within = λ v t. omega (arith, within v t) }

module _ {words : ℕ} {row : List ℕ} (narrow : Narrow words row) {i : ℕ} (passed : words ≤ i) where
  -- no location from word i on is marked
  pub narrow_past : (v : ℕ) → i ≤ v / 64 → ¬ T (marked row v)
  narrow_past v l t = omega (arith, narrow.within v t)

  pub narrow_from : (v : ℕ) → ¬ T (from_word i (marked row) v)
  narrow_from v t = let s = from_word_lem i (marked row) v t in narrow_past v s.0 s.1

  -- none is where the words before it are 0
  pub narrow_none : ((j : ℕ) → j < i → get_or row j 0 ≡ 0) → (v : ℕ) → ¬ T (marked row v)
  narrow_none zeros v t = by_cases (dec_lt (v / 64) i) (λ l. word_none row v (zeros (v / 64) l) t) (λ nl. narrow_past v (omega arith) t)

-- ---- rows that are made word by word

module _ {made : ℕ → ℕ → ℕ → Type 0} {one other row : List ℕ} where
  -- where each digit that is made is the test of two digits, and no mark is past the words that are made, a mark of the row is the test of two marks
  pub made_marks : {end : ℕ} → Made made one other row end → (test : Bool → Bool → Bool)
      → ((i k : ℕ) → k < 64 → made (get_or one i 0) (get_or other i 0) (get_or row i 0) → eqb (bit_at (get_or row i 0) k) 1 ≡ test (eqb (bit_at (get_or one i 0) k) 1) (eqb (bit_at (get_or other i 0) k) 1))
      → ((v : ℕ) → end ≤ v / 64 → test (marked one v) (marked other v) ≡ false)
      → (v : ℕ) → marked row v ≡ test (marked one v) (marked other v)
  unfolding marked
  made_marks {end} m test digit past v =
      by_cases
      (dec_lt (v / 64) end)
      (λ l. digit (v / 64) (v % 64) (omega arith) (m.words (v / 64) l))
      (λ nl. is_false (marked row v) (word_none row v (m.rest (v / 64) (omega arith))) ∙ sym (past v (omega arith)))

  module _ {words end : ℕ} (m : Made made one other row end) (passed : words ≤ end) where
    pub differ_made : Narrow words one × Narrow words other
        → ((i : ℕ) → made (get_or one i 0) (get_or other i 0) (get_or row i 0) → get_or row i 0 ≡ bit_xor (get_or one i 0) (get_or other i 0)) → Differ one other row
    unfolding xor
    differ_made n by =
        record {
          marks =
              made_marks m xor
              (λ i k l w. rw (by i w) (digit_xor (get_or one i 0) (get_or other i 0) k))
              (λ v h. rw (is_false (marked one v) (narrow_past n.0 passed v h), is_false (marked other v) (narrow_past n.1 passed v h)));
        }

    pub minus_made : Narrow words one → ((i : ℕ) → get_or other i 0 < 2 ^ 64)
        → ((i : ℕ) → made (get_or one i 0) (get_or other i 0) (get_or row i 0) → get_or row i 0 ≡ bit_and (get_or one i 0) (bit_not w64 (get_or other i 0))) → Minus one other row
    minus_made n small by =
        record {
          marks =
              made_marks m (λ x y. x && not y)
              (λ i k l w. rw (by i w) (digit_and (get_or one i 0) (bit_not w64 (get_or other i 0)) k ∙ ap (λ y. eqb (bit_at (get_or one i 0) k) 1 && y) (digit_not (get_or other i 0) k (small i) l)))
              (λ v h. rw (is_false (marked one v) (narrow_past n passed v h)));
        }

-- a row of zeros marks nothing
pub clear : (n v : ℕ) → ¬ T (marked (replicate n 0) v)
clear n v = word_none (replicate n 0) v (copies_at 0 n (v / 64))

-- a row that marks less than another does so in the same words, and so does one that marks nothing
pub less_narrow : {words : ℕ} {row less left : List ℕ} → Narrow words row → Minus row less left → Narrow words left
less_narrow {row = row} {less = less} {left = left} n m = record { most = n.most; within = λ v t. n.within v (and_T (marked row v) (not (marked less v)) (subst T (m.marks v) t)).0 }

pub clear_narrow : {words : ℕ} (n : ℕ) → words ≤ row_words → Narrow words (replicate n 0)
clear_narrow n h = record { most = h; within = λ v t. absurd (clear n v t) }

pub clear_row : (n v : ℕ) → marked (replicate n 0) v ≡ false
clear_row n v = is_false (marked (replicate n 0) v) (clear n v)

-- a word that is not 0 marks a location
pub some_marked : (row : List ℕ) (i : ℕ) → get_or row i 0 < 2 ^ 64 → (get_or row i 0 ≡ 0 → ⊥) → (v : ℕ) × T (marked row v)
some_marked row i small some =
    let w = get_or row i 0 in
    (i * 64 + count_trailing_zeros 64 w, (word_marked row i _ (word_here (word_begun w (i * 64) small) some)).1)

-- a row with v marked too, as the machine stores it
pub with_mark : (row : List ℕ) (v : ℕ) → v / 64 < length row → (u : ℕ) → marked (set row (v / 64) (bit_or (get_or row (v / 64) 0) (1 * 2 ^ (v % 64) % 2 ^ 64))) u ≡ (marked row u || eqb u v)
with_mark row v l u =
    let word : ℕ = bit_or (get_or row (v / 64) 0) (1 * 2 ^ (v % 64) % 2 ^ 64) in
    by_cases
    (ℕ_discrete (u / 64) (v / 64))
    (λ e.
    mark_here row (v / 64) word l u e
    ∙ digit_or (get_or row (v / 64) 0) (1 * 2 ^ (v % 64) % 2 ^ 64) (u % 64)
    ∙ ap₂ ◌||◌ (sym (mark_is row (v / 64) u e)) (digit_shifted (v % 64) (u % 64) (omega arith) ∙ grind (arith, nat_tests)))
    (λ ne. mark_other row (v / 64) word u ne ∙ grind (arith, nat_tests))

-- a row of links with one more mark
pub with_link : (rows : List (List ℕ)) (a b : ℕ) (row : List ℕ) → a < length rows → With (get_or rows a []) b row → Linked rows a b (set rows a row)
unfolding linked_in
with_link rows a b row l w = record { many = length-set rows a row; links = links }
  where
    links : (x y : ℕ) → marked (get_or (set rows a row) x []) y ≡ (marked (get_or rows x []) y || (eqb x a && eqb y b))
    links x y =
        by_cases
        (ℕ_discrete x a)
        (λ e. rw (e, get_or-set_same rows a row [] l) (w.marks y ∙ grind (arith, nat_tests)))
        (λ ne. rw (get_or-set_other rows a x row [] ne) (grind (arith, nat_tests)))

-- a row with the origin marked too
pub with_origin : (row : List ℕ) → 0 < length row → (v : ℕ) → marked (set row 0 (bit_or (get_or row 0 0) 1)) v ≡ (marked row v || eqb v 0)
with_origin row l v = with_mark row 0 l v

-- ---- marks in common

-- a bitwise or is 0 only where both its words are
or_none : (a b : ℕ) → bit_or a b ≡ 0 → (a ≡ 0) × (b ≡ 0)
or_none a b e = (omega (arith, or_add_and a b, and_le_l a b, and_le_r a b), omega (arith, or_add_and a b, and_le_l a b, and_le_r a b))

-- what word j of two rows has in common
abbrev common : List ℕ → List ℕ → ℕ → ℕ
common one other j = bit_and (get_or one j 0) (get_or other j 0)

-- of the words of two rows, i are looked at, and `seen` is 0 where they have nothing in common
pub record Looked (one other : List ℕ) (seen i : ℕ) : Type 0 where
  pub none : seen ≡ 0 → (j : ℕ) → j < i → common one other j ≡ 0
  pub some : (seen ≡ 0 → ⊥) → (j : ℕ) × (common one other j ≡ 0 → ⊥)

module _ {one other : List ℕ} {seen i : ℕ} (l : Looked one other seen i) where
  pub looked_next : Looked one other (bit_or seen (common one other i)) (i + 1)
  looked_next =
      let w : ℕ = common one other i in
      record {
        none = λ z. below_more _ _ (l.none (or_none seen w z).0) (or_none seen w z).1;
        some = λ n. by_cases (ℕ_discrete w 0) (λ e. l.some (λ z. n (rw (z, e)))) (λ ne. (i, ne));
      }

  -- the words of the other row that have marks are looked at, and each word of the first has 64 digits
  pub looked_ended : ((j : ℕ) → get_or one j 0 < 2 ^ 64) → {words : ℕ} → Narrow words other → words ≤ i → Meet (marked one) (marked other) (not (eqb seen 0))
  looked_ended small narrow passed =
      record {
        common = λ t. met (l.some (λ z. T_not (eqb seen 0) t (eq_T seen 0 z)));
        apart = λ t. unmet (l.none (eqb→eq seen 0 (not_not_T (eqb seen 0) t)));
      }
    where
      met : (j : ℕ) × (common one other j ≡ 0 → ⊥) → (v : ℕ) × T (marked one v) × T (marked other v)
      met (j, some) =
          let w : ℕ = common one other j in
          let v : ℕ = j * 64 + count_trailing_zeros 64 w in
          let here = word_here (word_begun w (j * 64) (lt_of_le_of_lt (and_le_l (get_or one j 0) (get_or other j 0)) (small j))) some in
          let s = common_words (get_or one j 0) (get_or other j 0) (j * 64) v here in
          (v, (word_marked one j v s.0).1, (word_marked other j v s.1).1)

      unmet : ((j : ℕ) → j < i → common one other j ≡ 0) → (v : ℕ) → T (marked one v) → ¬ T (marked other v)
      unmet none v a b =
          let j : ℕ = v / 64 in
          by_cases
          (dec_lt j i)
          (λ h. none_in_zero (common one other j) (j * 64) (none j h) v (both_words (get_or one j 0) (get_or other j 0) (j * 64) v (marked_word one j v refl a) (marked_word other j v refl b)))
          (λ nh. narrow_past narrow passed v (omega arith) b)
