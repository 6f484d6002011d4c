-- Sweeps one after another. Assumes nothing.
use mathlib.Core.Bool.{Bool}
use mathlib.Core.Logic.{◌⊎◌, inl, inr, ⊎_elim}
use Prim.Native.Nat.{ℕ, ◌≤◌}
use native.Mathlib.Omega.{arith}
use native.Mathlib.Nat.{le_of_lt}
use lib.Dec.{T, eqb, eqb→eq}
use Rattle.rows.specs.declared.Range.{Range}
use Rattle.rows.specs.Rows.{marked}
use Rattle.rows.specs.Ranges.{avoiding}
use Rattle.graph.specs.declared.Level.{Level}
use Rattle.graph.specs.declared.Walker.{Walker}
use Rattle.graph.specs.Sweeps.{Ready, Finds, Sweep, Swept}
use Rattle.graph.specs.Sweeps.Sweep.{entered, kept}
use Rattle.rows.proofs.Parts.{done, Part, Picked, Union, done_more, done_below}
use Rattle.rows.proofs.Ranges.{without_both, both_without, without_as}

-- what one kind of finders and then another find, the first below the second, is what both together find
pub record Joined (A B C : ℕ → ℕ → Type 0) : Type 0 where
  pub splits : (v u : ℕ) → C v u → A v u ⊎ B v u
  pub of_first : (v u : ℕ) → A v u → C v u
  pub of_second : (v u : ℕ) → B v u → C v u
  pub rising : (v a b : ℕ) → A v a → B v b → a ≤ b

-- ---- one slot

-- nothing gets fresh by a sweep
pub sweep_fresh : {A : ℕ → Type 0} {d p k p' k' : ℕ} {f f' : Bool} → Sweep A d f p k f' p' k' → T f' → T f
sweep_fresh (entered t a) t' = absurd t'
sweep_fresh (kept why) t' = t'

-- a sweep goes by what finds the slot where it is fresh, whatever that is called
pub sweep_as : {A C : ℕ → Type 0} {d p k p' k' : ℕ} {f f' : Bool} → (T f → (u : ℕ) → A u → C u) → (T f → (u : ℕ) → C u → A u) → Sweep A d f p k f' p' k' → Sweep C d f p k f' p' k'
sweep_as to back (entered t a) = entered t (record { found = to t _ a.found; lowest = λ w c. a.lowest w (back t w c) })
sweep_as to back (kept why) = kept (λ t u c. why t u (back t u c))

-- two sweeps are one
pub sweep_then : {A B C : ℕ → ℕ → Type 0} {d p k p' k' p'' k'' : ℕ} {f f' f'' : Bool} → Joined A B C → (v : ℕ)
    → Sweep (A v) d f p k f' p' k' → Sweep (B v) d f' p' k' f'' p'' k'' → Sweep (C v) d f p k f'' p'' k''
sweep_then j v (entered t a) (entered t' b) = absurd t'
sweep_then j v (entered {u = u} t a) (kept why) =
    entered t
    (record {
      found = j.of_first v u a.found;
      lowest = λ w c. ⊎_elim (λ x. a.lowest w x) (λ y. j.rising v u w a.found y) (j.splits v w c);
    })
sweep_then j v (kept why) (entered {u = u} t b) =
    entered t
    (record {
      found = j.of_second v u b.found;
      lowest = λ w c. ⊎_elim (λ x. absurd (why t w x)) (λ y. b.lowest w y) (j.splits v w c);
    })
sweep_then j v (kept why) (kept why') = kept (λ t u c. ⊎_elim (λ x. why t u x) (λ y. why' t u y) (j.splits v u c))

-- ---- every slot

module _ {l : Level} {before : Walker} where
  pub swept_none : (frontier : ℕ → Bool) (linked : ℕ → ℕ → Bool) → Ready l.words before → ((v u : ℕ) → ¬ Finds frontier (avoiding l.block linked) v u)
      → Swept l frontier linked before before
  swept_none frontier linked ready none = record { ready = ready; slot = λ v. kept (λ t u. none v u) }

  module _ {after : Walker} where
    pub swept_as : {F G : ℕ → Bool} {L M : ℕ → ℕ → Bool}
        → ((v : ℕ) → T (marked before.fresh v) → (u : ℕ) → Finds F (avoiding l.block L) v u → Finds G (avoiding l.block M) v u)
        → ((v : ℕ) → T (marked before.fresh v) → (u : ℕ) → Finds G (avoiding l.block M) v u → Finds F (avoiding l.block L) v u)
        → Swept l F L before after → Swept l G M before after
    swept_as to back s = record { ready = s.ready; slot = λ v. sweep_as (to v) (back v) (s.slot v) }

    pub swept_then : {last : Walker} {F G H : ℕ → Bool} {L M N : ℕ → ℕ → Bool}
        → Joined (Finds F (avoiding l.block L)) (Finds G (avoiding l.block M)) (Finds H (avoiding l.block N))
        → Swept l F L before after → Swept l G M after last → Swept l H N before last
    swept_then j a b = record { ready = b.ready; slot = λ v. sweep_then j v (a.slot v) (b.slot v) }

-- ---- the marks of a frontier, or of a row, taken part by part

module _ {marks left new left' : ℕ → Bool} (part : Part marks left) (picked : Picked left new left') where
  more : Union (done marks left) new (done marks left')
  more = done_more part picked

  pub frontier_joined : (linked : ℕ → ℕ → Bool) → Joined (Finds (done marks left) linked) (Finds new linked) (Finds (done marks left') linked)
  frontier_joined linked =
      record {
        splits = λ v u c. ⊎_elim (λ b. inl (record { there = b; link = c.link })) (λ n. inr (record { there = n; link = c.link })) (more.splits u c.there);
        of_first = λ v u c. record { there = more.of_before u c.there; link = c.link };
        of_second = λ v u c. record { there = more.of_new u c.there; link = c.link };
        rising = λ v a b c e. le_of_lt (done_below part picked a b c.there e.there);
      }

  pub row_joined : (r : Range) (u : ℕ)
      → Joined (Finds (eqb u) (avoiding r (λ _. done marks left))) (Finds (eqb u) (avoiding r (λ _. new))) (Finds (eqb u) (avoiding r (λ _. done marks left')))
  row_joined r u =
      record {
        splits =
            λ v w c.
            let o = without_both r (done marks left') v c.link in
            ⊎_elim
            (λ b. inl (record { there = c.there; link = both_without r (done marks left) v b o.1 }))
            (λ n. inr (record { there = c.there; link = both_without r new v n o.1 }))
            (more.splits v o.0);
        of_first = λ v w c. record { there = c.there; link = without_as r _ _ v (more.of_before v) c.link };
        of_second = λ v w c. record { there = c.there; link = without_as r _ _ v (more.of_new v) c.link };
        rising = λ v a b c e. omega (arith, eqb→eq u a c.there, eqb→eq u b e.there);
      }
