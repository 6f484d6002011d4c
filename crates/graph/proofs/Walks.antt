-- The walk over rows of words: its levels, and the forest that it ends with. Assumes nothing.
use mathlib.Core.Bool.{Bool, xor, ◌||◌}
use mathlib.Core.List.{List}
use mathlib.Core.Logic.{◌⊎◌, inl, inr, by_cases, ⊎_elim}
use mathlib.Core.Path.{◌≡◌, refl, ap, ◌∙◌}
use Prim.Native.Nat.{ℕ, suc, ◌+◌, ◌≤◌, ◌<◌}
use native.Mathlib.Omega.{arith}
use native.Mathlib.Decide.{ℕ_discrete}
use lib.Bits.{bit_or}
use lib.Dec.{T, eqb, eqb→eq}
use lib.ListN.{length, get_or, set, replicate, length-replicate}
use Rattle.rows.specs.Rows.{marked, linked_in, words_for, Narrow, locations_max, slots_max, row_words, Differ}
use Rattle.rows.specs.declared.Range.{Range}
use Rattle.rows.specs.Ranges.{without, avoiding}
use Rattle.graph.specs.declared.Walker.{Walker}
use Rattle.graph.specs.Held.{held_in, SlotsOnly}
use Rattle.graph.specs.Steps.{Walked}
use Rattle.graph.specs.Sweeps.{Locations, Ready, Swept}
use Rattle.lists.proofs.Tests.{is_false, or_T, T-or-l, T-or-r, eq_T}
use Rattle.lists.proofs.Picks.{copies_at}
use Rattle.graph.proofs.Chains.{chain_within, origin_fewest}
use Rattle.graph.proofs.Forests.{fewest_reached}
use Rattle.graph.proofs.Levels.{Levels, levels_begun, levels_next, levels_entry, levels_origin, taken_reached, reached_taken}
use Rattle.rows.proofs.Marks.{with_origin, clear_row, narrow_for}
use Rattle.rows.proofs.Ranges.{without_both}
use Rattle.graph.proofs.Held.{slot_held, held_within}
use Rattle.graph.proofs.Avoiding.{walked_without}

-- the levels below d are walked, over the words that the locations 0 to n take
pub record Walking (r : Range) (links : List (List ℕ)) (held : List ℕ) (n words d : ℕ) (frontier : List ℕ) (w : Walker) : Type 0 where
  pub only : SlotsOnly n held
  pub few : words ≡ words_for n
  pub walked : ℕ
  pub next_level : d ≡ suc walked
  pub ready : Ready words w
  pub levels : Levels (avoiding r (linked_in links)) (held_in held) walked (marked frontier) (marked w.fresh) (λ v. get_or w.forest.parent v 0) (λ v. get_or w.forest.depth v 0)

-- the held slots are in these words
narrow_held : {n words : ℕ} {held : List ℕ} → SlotsOnly n held → words ≡ words_for n → Narrow words held
narrow_held {n} {words} {held} only few = rw few (narrow_for n held only.most only.within)

module _ {r : Range} {links : List (List ℕ)} {held : List ℕ} {n words : ℕ} where
  -- the frontier is the origin
  pub begun : SlotsOnly n held → words ≡ words_for n → length held ≡ row_words
      → Walking r links held n words 1 (set (replicate row_words 0) 0 1) (record { fresh = held; forest = record { parent = replicate locations_max 0; depth = replicate locations_max 0; reached = replicate row_words 0 } })
  begun only few l =
      record {
        only = only;
        few = few;
        walked = 0;
        next_level = refl;
        ready =
            record {
              long = l;
              narrow = narrow_held only few;
              locations = record { within = λ v t. omega (arith, only.within v t, only.most) };
              whole = record { parents = length-replicate {A = ℕ} locations_max 0; depths = length-replicate {A = ℕ} locations_max 0 };
            };
        levels =
            levels_begun
            (λ v t. eqb→eq v 0 (rw (origin_alone v) at t))
            (rw (origin_alone 0) tt)
            (is_false (marked held 0) (λ t. absurd (omega (arith, only.above 0 t))))
            (slot_held held)
            (copies_at 0 locations_max)
            (copies_at 0 locations_max);
      }
    where
      origin_alone : (v : ℕ) → marked (set (replicate row_words 0) 0 1) v ≡ eqb v 0
      origin_alone v =
          with_origin (replicate row_words 0) (omega arith) v
          ∙ ap (λ b. b || eqb v 0) (clear_row row_words v)

  module _ {d : ℕ} {frontier : List ℕ} {walker : Walker} (w : Walking r links held n words d frontier walker) where
    pub held_narrow : Narrow words held
    held_narrow = narrow_held w.only w.few

    -- no location above n is held
    bound : (v : ℕ) → T (held_in held v) → v ≤ n
    bound = held_within w.only

    -- what the frontier marks ends a chain, so it is a location
    within : (v : ℕ) → T (marked frontier v) → v ≤ n
    within v t = chain_within n bound (w.levels.edge.deep v t).chain

    pub frontier_locations : Locations (marked frontier)
    frontier_locations = record { within = λ v t. omega (arith, within v t, w.only.most) }

    pub frontier_narrow : Narrow words frontier
    frontier_narrow = rw w.few (narrow_for n frontier w.only.most within)

    -- one more level is swept
    pub next : {frontier' : List ℕ} {walker' : Walker} → Swept (record { words = words; block = r; depth = d }) (marked frontier) (linked_in links) walker walker'
        → Differ walker.fresh walker'.fresh frontier' → Walking r links held n words (d + 1) frontier' walker'
    next s t =
        record {
          only = w.only;
          few = w.few;
          walked = d;
          next_level = omega arith;
          ready = s.ready;
          levels = rw w.next_level (levels_next w.levels (rw w.next_level at s.slot) t.marks);
        }

    -- the frontier is empty or the levels are as many as the slots: what is taken from the held slots is reached, with the origin
    pub ended : {row : List ℕ} → 0 < length row → Differ held walker.fresh row → ((v : ℕ) → ¬ T (marked frontier v)) ⊎ (slots_max < d)
        → Walked (linked_in links) (without r (held_in held)) (marked (set row 0 (bit_or (get_or row 0 0) 1))) walker.forest.parent walker.forest.depth
    ended {row} l t over =
        walked_without r
        (record {
          entry = levels_entry w.levels n bound enough;
          parent_origin = (levels_origin w.levels).0;
          depth_origin = (levels_origin w.levels).1;
          marks_reached =
              λ v m.
              by_cases
              (ℕ_discrete v 0)
              (λ e. rw e (fewest_reached origin_fewest))
              (λ ne.
              ⊎_elim
              (λ x. taken_reached w.levels n bound enough (omega arith) (rw (row_is v (omega arith)) at x))
              (λ z. absurd (ne (eqb→eq v 0 z)))
              (or_T (marked row v) (eqb v 0) (rw (with_origin row l v) at m)));
          reached_marks =
              λ v x.
              rw (with_origin row l v)
              (by_cases
              (ℕ_discrete v 0)
              (λ e. T-or-r (marked row v) (eqb v 0) (eq_T v 0 e))
              (λ ne. T-or-l (marked row v) (eqb v 0) (rw (row_is v (omega arith)) (reached_taken w.levels n bound enough (omega arith) x))));
        })
      where
        enough : ((v : ℕ) → ¬ T (marked frontier v)) ⊎ (n ≤ w.walked)
        enough = ⊎_elim inl (λ h. inr (omega (arith, w.next_level, w.only.most))) over

        row_is : (v : ℕ) → 0 < v → marked row v ≡ xor (held_in held v) (marked walker.fresh v)
        row_is v p = t.marks v ∙ ap (λ b. xor b (marked walker.fresh v)) (slot_held held v p)

-- a reached location is the origin or a held slot
pub walked_within : {n : ℕ} {held : List ℕ} {linked : ℕ → ℕ → Bool} (r : Range) {reaches : ℕ → Bool} {parent depth : List ℕ} → SlotsOnly n held
    → Walked linked (without r (held_in held)) reaches parent depth → (v : ℕ) → T (reaches v) → v ≤ n
walked_within {n} {held} r only w v t =
    chain_within n (λ u h. held_within only u (without_both r (held_in held) u h).0) (w.marks_reached v t).chain
