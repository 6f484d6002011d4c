-- The sweep of one row, word by word. Assumes nothing.
use mathlib.Core.Bool.{Bool, xor}
use mathlib.Core.List.{List}
use mathlib.Core.Logic.{by_cases}
use mathlib.Core.Path.{◌≡◌, sym, ◌∙◌, subst}
use Prim.Native.Nat.{ℕ, ◌+◌, ◌*◌, ◌/◌, ◌%◌, ◌≤◌, ◌<◌}
use native.Mathlib.Omega.{arith}
use native.Mathlib.Decide.{ℕ_discrete}
use native.Mathlib.Nat.{le_of_eq}
use lib.Bits.{bit_and, xor_zero_r}
use lib.Dec.{T, eqb, eqb_refl, eqb→eq}
use lib.ListN.{length, get_or, set, length-set}
use Rattle.rows.specs.Rows.{marked, in_word, row_words}
use Rattle.rows.specs.declared.Range.{Range}
use Rattle.rows.specs.Ranges.{without, avoiding, LeftOut}
use Rattle.graph.specs.declared.Forest.{Forest}
use Rattle.graph.specs.declared.Level.{Level}
use Rattle.graph.specs.declared.Walker.{Walker}
use Rattle.graph.specs.Sweeps.{Locations, Whole, Ready, WordSwept, Finds, Sweep, Swept}
use Rattle.graph.specs.Sweeps.Sweep.{entered, kept}
use Rattle.lists.proofs.Tests.{T?, is_true, is_false, xor_false}
use Rattle.rows.proofs.Digits.{digit_xor}
use Rattle.rows.proofs.InWords.{both_words, common_words, none_in_zero}
use Rattle.rows.proofs.Parts.{done, done_none, done_split, split_done}
use Rattle.rows.proofs.Marks.{mark_is, word_is, mark_here, mark_other, word_marked, marked_word, from_word, from_word_lem, from_first, from_part, row_picked, narrow_past}
use Rattle.rows.proofs.Ranges.{without_both, without_as}
use Rattle.graph.proofs.Entries.{entered_none}
use Rattle.graph.proofs.Sweeps.{sweep_fresh, swept_none, swept_then, swept_as, row_joined}

-- ---- one word

module _ {r : Range} (word fresh : ℕ) {base : ℕ} where
  -- the entries that are made are of locations
  pub new_locations : {new : ℕ} → LeftOut r (bit_and word fresh) base new → Locations (in_word fresh base) → Locations (in_word new base)
  new_locations o l = record { within = λ v t. l.within v (common_words word fresh base v (without_both r _ v (subst T (o.marks v) t)).0).1 }

-- there is nothing: the word is passed over
pub word_passed : {l : Level} (word fresh : ℕ) {base new u : ℕ} {f : Forest} → Whole f → LeftOut l.block (bit_and word fresh) base new → new ≡ 0 → WordSwept l word fresh base u f f fresh
word_passed word fresh {base} {new} whole o z = record { new = new; found = o; entered = entered_none whole (none_in_zero new base z); same = rw z (sym (xor_zero_r fresh)) }

-- ---- one word of a row

module _ {l : Level} (row : List ℕ) (before : Walker) (i : ℕ) {u left : ℕ} {forest : Forest}
    (w : WordSwept l (get_or row i 0) (get_or before.fresh i 0) (i * 64) u before.forest forest left) where
  abbrev after : Walker
  after = record { fresh = set before.fresh i left; forest = forest }

  abbrev is_new : ℕ → Bool
  is_new = in_word w.new (i * 64)

  -- what is entered is fresh, and marked in the row outside the range
  new_marked : (v : ℕ) → T (is_new v) → (v / 64 ≡ i) × T (marked before.fresh v) × T (without l.block (in_word (get_or row i 0) (i * 64)) v)
  new_marked v t =
      let o = subst T (w.found.marks v) t in
      let s = word_marked before.fresh i v (common_words (get_or row i 0) (get_or before.fresh i 0) (i * 64) v (without_both l.block _ v o).0).1 in
      (s.0, s.1, without_as l.block _ _ v (λ m. (common_words (get_or row i 0) (get_or before.fresh i 0) (i * 64) v m).0) o)

  marked_new : (v : ℕ) → T (without l.block (in_word (get_or row i 0) (i * 64)) v) → T (marked before.fresh v) → T (is_new v)
  marked_new v s t =
      subst T (sym (w.found.marks v))
      (without_as l.block _ _ v (λ m. both_words (get_or row i 0) (get_or before.fresh i 0) (i * 64) v m (marked_word before.fresh i v (word_marked row i v m).0 t)) s)

  module _ (ready : Ready l.words before) (low : i < length before.fresh) where
    cleared : (v : ℕ) → v / 64 ≡ i → marked after.fresh v ≡ xor (marked before.fresh v) (is_new v)
    cleared v q =
        mark_here before.fresh i left low v q
        ∙ rw (w.same, mark_is before.fresh i v q, word_is w.new i v q) (digit_xor (get_or before.fresh i 0) w.new (v % 64))

    Slot : ℕ → Type 0
    Slot v =
        Sweep (Finds (eqb u) (avoiding l.block (λ _. in_word (get_or row i 0) (i * 64))) v) l.depth
        (marked before.fresh v) (get_or before.forest.parent v 0) (get_or before.forest.depth v 0)
        (marked after.fresh v) (get_or after.forest.parent v 0) (get_or after.forest.depth v 0)

    new_slot : (v : ℕ) → T (is_new v) → Slot v
    unfolding Slot xor
    new_slot v t =
        let s = new_marked v t in
        rw (cleared v s.0, is_true (marked before.fresh v) s.1, is_true (is_new v) t, w.entered.new_parent v t, w.entered.new_depth v t)
        (entered tt (record { found = record { there = eqb_refl u; link = s.2 }; lowest = λ a c. le_of_eq (eqb→eq u a c.there) }))

    same : (v : ℕ) → ¬ T (is_new v) → marked after.fresh v ≡ marked before.fresh v
    same v n = by_cases (ℕ_discrete (v / 64) i) (λ q. cleared v q ∙ rw (is_false (is_new v) n, xor_false)) (mark_other before.fresh i left v)

    old_slot : (v : ℕ) → ¬ T (is_new v) → Slot v
    unfolding Slot
    old_slot v n = rw (same v n, w.entered.old_parent v n, w.entered.old_depth v n) (kept (λ t a c. n (marked_new v c.link t)))

    slots : (v : ℕ) → Slot v
    slots v = by_cases (T? (is_new v)) (new_slot v) (old_slot v)

    pub word_swept : Swept l (eqb u) (λ _. in_word (get_or row i 0) (i * 64)) before after
    unfolding Slot
    word_swept =
        record {
          ready =
              record {
                long = simp length-set ready.long;
                narrow = record { most = ready.narrow.most; within = λ v t. ready.narrow.within v (sweep_fresh (slots v) t) };
                locations = record { within = λ v t. ready.locations.within v (sweep_fresh (slots v) t) };
                whole = w.entered.whole;
              };
          slot = slots;
        }

-- ---- the loop over the words

-- the row's marks in the words below i are swept
pub record Sweeping (l : Level) (row : List ℕ) (u i : ℕ) (before after : Walker) : Type 0 where
  pub swept : Swept l (eqb u) (λ _. done (marked row) (from_word i (marked row))) before after

module _ {l : Level} {row : List ℕ} {u : ℕ} {before : Walker} where
  pub begun : Ready l.words before → Sweeping l row u 0 before before
  begun ready = record { swept = swept_none _ _ ready (λ v w f. done_none _ _ (from_first (marked row)) v (without_both l.block _ v f.link).0) }

  module _ {i : ℕ} {after : Walker} (s : Sweeping l row u i before after) where
    pub next : {left : ℕ} {forest : Forest} → i < row_words → WordSwept l (get_or row i 0) (get_or after.fresh i 0) (i * 64) u after.forest forest left
        → Sweeping l row u (i + 1) before (record { fresh = set after.fresh i left; forest = forest })
    next low w =
        let ready = s.swept.ready in
        record { swept = swept_then (row_joined (from_part i (marked row)) (row_picked row i) l.block u) s.swept (word_swept row after i w ready (omega (arith, ready.long))) }

    -- a slot that was fresh is in one of the first words, so that the row's marks in others find none
    pub ended : Ready l.words before → l.words ≤ i → Swept l (eqb u) (λ _. marked row) before after
    ended ready past =
        swept_as
        (λ v t w f. record { there = f.there; link = without_as l.block _ _ v (λ m. (done_split _ _ v m).0) f.link })
        (λ v t w f. record { there = f.there; link = without_as l.block _ _ v (λ m. split_done _ _ v m (λ o. narrow_past ready.narrow past v (from_word_lem i (marked row) v o).0 t)) f.link })
        s.swept
