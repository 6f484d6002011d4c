-- Marks in a word, and the loop that takes them from the lowest on. Assumes nothing.
use mathlib.Core.Logic.{inl, inr, by_cases}
use mathlib.Core.Path.{◌≡◌, sym, ◌∙◌}
use Prim.Native.Nat.{ℕ, ◌+◌, ◌-◌, ◌^◌, ◌≤◌, ◌<◌}
use native.Mathlib.Omega.{arith}
use native.Mathlib.Decide.{ℕ_discrete}
use native.Mathlib.Nat.{pos_of_ne-zero}
use lib.Bits.{bit_and, and_le_r}
use lib.Count.{count_trailing_zeros}
use lib.Dec.{T, eqb, eqb_refl, eqb→eq}
use Rattle.std.specs.Int.{bit_at}
use Rattle.std.proofs.lemmas.Nat.Bits.{bit_at-zero}
use Rattle.std.proofs.lemmas.Bool.Decides.{nat_tests}
use Rattle.rows.specs.Rows.{in_word}
use Rattle.lists.proofs.Tests.{eq_T}
use Rattle.rows.proofs.Digits.{digit_and}
use Rattle.rows.proofs.Lowest.{Low, low, low_small}
use Rattle.rows.proofs.Parts.{Part, Picked, part_begun, part_more}

-- what it is to be marked in a word
pub record InWord (word base v : ℕ) : Type 0 where
  pub from : base ≤ v
  pub to : v < base + 64
  pub digit : bit_at word (v - base) ≡ 1

module _ (word base v : ℕ) where
  pub in_word_lem : T (in_word word base v) → InWord word base v
  unfolding in_word
  in_word_lem t = record { from = grind (arith, nat_tests); to = grind (arith, nat_tests); digit = grind (arith, nat_tests) }

  pub word_in : InWord word base v → T (in_word word base v)
  unfolding in_word
  word_in i = grind (arith, nat_tests)

-- what is marked in two words is marked in what they have in common
pub both_words : (a b base v : ℕ) → T (in_word a base v) → T (in_word b base v) → T (in_word (bit_and a b) base v)
unfolding in_word
both_words a b base v s t = grind (arith, nat_tests, digit_and a b (v - base))

pub common_words : (a b base v : ℕ) → T (in_word (bit_and a b) base v) → T (in_word a base v) × T (in_word b base v)
unfolding in_word
common_words a b base v t = (grind (arith, nat_tests, digit_and a b (v - base)), grind (arith, nat_tests, digit_and a b (v - base)))

-- no digit is set in 0
pub none_in_zero : (word base : ℕ) → word ≡ 0 → (v : ℕ) → ¬ T (in_word word base v)
none_in_zero word base z v t = omega (arith, bit_at-zero (v - base), (rw z at (in_word_lem word base v t)).digit)

-- the location of the lowest digit is taken from a word
pub lowest_picked : (w i base : ℕ) → i < 64 → Low w i → Picked (in_word w base) (eqb (base + i)) (in_word (bit_and w (w - 1)) base)
lowest_picked w i base small l =
    record {
      splits =
          λ v t.
          let s = in_word_lem w base v t in
          by_cases
          (ℕ_discrete v (base + i))
          (λ e. inl (eq_T (base + i) v (sym e)))
          (λ ne. inr (word_in (bit_and w (w - 1)) base v (record { from = s.from; to = s.to; digit = l.others (v - base) (omega (arith, s.from)) ∙ s.digit })));
      of_new =
          λ v t.
          let e : base + i ≡ v = eqb→eq (base + i) v t in
          let b : v - base ≡ i = omega arith in
          word_in w base v (record { from = omega arith; to = omega arith; digit = rw b l.here });
      of_rest = λ v t. let s = in_word_lem (bit_and w (w - 1)) base v t in word_in w base v (record { from = s.from; to = s.to; digit = rest v s });
      rising =
          λ a b t r.
          let e : base + i ≡ a = eqb→eq (base + i) a t in
          let s = in_word_lem (bit_and w (w - 1)) base b r in
          omega (arith, l.lowest (b - base) (rest b s), apart b s, s.from);
    }
  where
    apart : (v : ℕ) → InWord (bit_and w (w - 1)) base v → v - base ≡ i → ⊥
    apart v s e = omega (arith, l.cleared, rw e at s.digit)

    rest : (v : ℕ) → InWord (bit_and w (w - 1)) base v → bit_at w (v - base) ≡ 1
    rest v s = sym (l.others (v - base) (apart v s)) ∙ s.digit

-- what is left of a word, as the loop has it
pub record WordLeft (word base w : ℕ) : Type 0 where
  pub small : w < 2 ^ 64
  pub part : Part (in_word word base) (in_word w base)

pub word_begun : (word base : ℕ) → word < 2 ^ 64 → WordLeft word base word
word_begun word base l = record { small = l; part = part_begun (in_word word base) }

module _ {word base w : ℕ} (left : WordLeft word base w) (some : w ≡ 0 → ⊥) where
  low_here : Low w (count_trailing_zeros 64 w)
  low_here = low 64 w (pos_of_ne-zero some) left.small

  -- the next location is taken
  pub word_picked : Picked (in_word w base) (eqb (base + count_trailing_zeros 64 w)) (in_word (bit_and w (w - 1)) base)
  word_picked = lowest_picked w (count_trailing_zeros 64 w) base (low_small w (count_trailing_zeros 64 w) left.small low_here) low_here

  -- it is marked in the word
  pub word_here : T (in_word word base (base + count_trailing_zeros 64 w))
  word_here = left.part.part _ (word_picked.of_new _ (eqb_refl (base + count_trailing_zeros 64 w)))

  pub word_less : bit_and w (w - 1) < w
  word_less = omega (arith, and_le_r w (w - 1))

  pub word_next : WordLeft word base (bit_and w (w - 1))
  word_next =
      record {
        small = omega (arith, word_less, left.small);
        part = part_more left.part word_picked;
      }
