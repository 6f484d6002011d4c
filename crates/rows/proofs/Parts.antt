-- Marks that are taken part by part in rising order: what is left of them, and what is done. Assumes nothing.
use mathlib.Core.Bool.{Bool, not, ◌&&◌}
use mathlib.Core.Logic.{◌⊎◌, inl, inr, ⊎_elim, by_cases}
use Prim.Native.Nat.{ℕ, ◌<◌}
use native.Mathlib.Omega.{arith}
use lib.Dec.{T}
use Rattle.std.proofs.lemmas.Bool.Decides.{nat_tests}
use Rattle.lists.proofs.Tests.{T?}

-- what is done of some marks, of which others are left
unfoldable pub done : (ℕ → Bool) → (ℕ → Bool) → ℕ → Bool
done marks left v = marks v && not (left v)

-- what is left is a part of the marks, and above what is done
pub record Part (marks left : ℕ → Bool) : Type 0 where
  pub part : (v : ℕ) → T (left v) → T (marks v)
  pub rising : (a b : ℕ) → T (done marks left a) → T (left b) → a < b

-- new marks are taken from those that are left, and are below the rest
pub record Picked (left new left' : ℕ → Bool) : Type 0 where
  pub splits : (v : ℕ) → T (left v) → T (new v) ⊎ T (left' v)
  pub of_new : (v : ℕ) → T (new v) → T (left v)
  pub of_rest : (v : ℕ) → T (left' v) → T (left v)
  pub rising : (a b : ℕ) → T (new a) → T (left' b) → a < b

-- what is marked before and what is new is marked after, and nothing else
pub record Union (before new after : ℕ → Bool) : Type 0 where
  pub splits : (v : ℕ) → T (after v) → T (before v) ⊎ T (new v)
  pub of_before : (v : ℕ) → T (before v) → T (after v)
  pub of_new : (v : ℕ) → T (new v) → T (after v)

module _ (marks left : ℕ → Bool) where
  pub done_split : (v : ℕ) → T (done marks left v) → T (marks v) × ¬ T (left v)
  unfolding done
  done_split v t = (grind (arith, nat_tests), λ l. grind (arith, nat_tests))

  pub split_done : (v : ℕ) → T (marks v) → ¬ T (left v) → T (done marks left v)
  unfolding done
  split_done v m l = grind (arith, nat_tests)

  -- nothing is done where all is left
  pub done_none : ((v : ℕ) → T (marks v) → T (left v)) → (v : ℕ) → ¬ T (done marks left v)
  done_none all v t = let s = done_split v t in s.1 (all v s.0)

  -- all is done where nothing is left
  module _ (none : (v : ℕ) → ¬ T (left v)) where
    pub done_marks : (v : ℕ) → T (done marks left v) → T (marks v)
    done_marks v t = (done_split v t).0

    pub marks_done : (v : ℕ) → T (marks v) → T (done marks left v)
    marks_done v m = split_done v m (none v)

pub part_begun : (marks : ℕ → Bool) → Part marks marks
part_begun marks = record { part = λ v t. t; rising = λ a b t. absurd (done_none marks marks (λ v m. m) a t) }

module _ {marks left new left' : ℕ → Bool} (p : Part marks left) (q : Picked left new left') where
  -- the new marks are done too
  pub done_more : Union (done marks left) new (done marks left')
  done_more =
      record {
        splits =
            λ v t.
            let s = done_split marks left' v t in
            by_cases
            (T? (left v))
            (λ l. inr (⊎_elim (λ n. n) (λ r. absurd (s.1 r)) (q.splits v l)))
            (λ nl. inl (split_done marks left v s.0 nl));
        of_before = λ v t. let s = done_split marks left v t in split_done marks left' v s.0 (λ r. s.1 (q.of_rest v r));
        of_new = λ v n. split_done marks left' v (p.part v (q.of_new v n)) (λ r. absurd (omega (arith, q.rising v v n r)));
      }

  pub part_more : Part marks left'
  part_more =
      record {
        part = λ v r. p.part v (q.of_rest v r);
        rising = λ a b t r. ⊎_elim (λ s. p.rising a b s (q.of_rest b r)) (λ n. q.rising a b n r) (done_more.splits a t);
      }

  -- what is done is below what is new
  pub done_below : (a b : ℕ) → T (done marks left a) → T (new b) → a < b
  done_below a b t n = p.rising a b t (q.of_new b n)
