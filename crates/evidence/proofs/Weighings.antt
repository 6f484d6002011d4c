-- The weighings of a picture are those of its candidates, and what they say is so by chains. Assumes nothing.
use mathlib.Core.Path.{◌≡◌, sym, ap, ◌∙◌, subst}
use mathlib.Core.Logic.{◌≢◌, by_cases}
use mathlib.Core.List.{map}
use Prim.Native.Nat.{ℕ, ◌≤◌, ◌<◌}
use native.Mathlib.Omega.{arith}
use native.Mathlib.Decide.{ℕ_discrete}
use lib.ListN.{length, get_or, length-map}
use Rattle.lists.specs.Lists.{range, Placed}
use Rattle.lists.proofs.Ranges.{range_made}
use Rattle.lists.proofs.Picks.{map_at}
use Rattle.picture.specs.Picture.{Picture}
use Rattle.network.specs.declared.Cost.{Cost}
use Rattle.network.specs.Words.{block_count, Candidate, CutsProtected, Admissible, Named}
use Rattle.network.specs.Tests.{weighed, candidates}
use Rattle.network.proofs.Weights.{mark_protected, protected_mark, mark_le}
use Rattle.network.proofs.Candidates.{candidates_are, candidates_all}
use Rattle.evidence.specs.Canonical.{no_cost, weighings}

-- ---- the list

module _ (p : Picture) where
  pub weighings_length : length (weighings p) ≡ length (candidates p)
  unfolding weighings
  weighings_length = length-map (candidates p) (weighed p)

  pub weighing_at : (i : ℕ) → i < length (candidates p) → get_or (weighings p) i no_cost ≡ weighed p (get_or (candidates p) i 0)
  unfolding weighings
  weighing_at i h = map_at (weighed p) _ 0 (candidates p) i h

  -- that of each candidate is in it, where the candidates are blocks of the picture
  pub candidate_weighing : ((b : ℕ) → Candidate p b → b < block_count p) → {b : ℕ} → Candidate p b → Placed no_cost (weighings p) (weighed p b)
  candidate_weighing below {b} c =
      let r = candidates_all p (below b c) c in
      record { at = r.at; within = omega (arith, r.within, weighings_length); same = weighing_at r.at r.within ∙ ap (weighed p) r.same }

  -- and each cost in it is that of a candidate
  pub data Weighing : Cost → Type 0 where
    of : (b : ℕ) → Candidate p b → Weighing (weighed p b)

  pub weighing_candidate : {w : Cost} → Placed no_cost (weighings p) w → Weighing w
  weighing_candidate o =
      let s : o.at < length (candidates p) = omega (arith, o.within, weighings_length) in
      subst Weighing (sym (weighing_at o.at s) ∙ o.same) (of (get_or (candidates p) o.at 0) (candidates_are p o.at s))

  -- a list of something of what each candidate weighs, in their order
  pub weighings_made : {A : Type 0} (g : Cost → A) (f : ℕ → A) → ((i : ℕ) → i < length (candidates p) → f i ≡ g (weighed p (get_or (candidates p) i 0)))
      → map f (range 0 (length (candidates p))) ≡ map g (weighings p)
  weighings_made g f same =
      rw (← weighings_length, ← length-map (weighings p) g)
      (range_made (g no_cost) f (map g (weighings p))
      (λ i h.
      let s : i < length (weighings p) = omega (arith, length-map (weighings p) g) in
      let t : i < length (candidates p) = omega (arith, weighings_length) in
      same i t ∙ sym (map_at g (g no_cost) no_cost (weighings p) i s ∙ ap g (weighing_at i t))))

-- ---- the mark

module _ {p : Picture} (n : Named p) (b : ℕ) where
  pub clear_admissible : (weighed p b).mark ≡ 0 → Admissible p b
  clear_admissible z k = absurd (omega (arith, protected_mark n b k))

  pub marked_protected : (weighed p b).mark ≢ 0 → CutsProtected p b
  marked_protected m = mark_protected n b (let some : 1 ≤ (weighed p b).mark = omega arith in omega (arith, mark_le p b))

  pub admissible_clear : Admissible p b → (weighed p b).mark ≡ 0
  admissible_clear a = by_cases (ℕ_discrete (weighed p b).mark 0) (λ z. z) (λ m. absurd (a (marked_protected m)))
