-- A list of k places that is stored into from its last one down. Assumes nothing.
use mathlib.Core.Path.{◌≡◌, sym, ap, ◌∙◌}
use mathlib.Core.Logic.{by_cases}
use mathlib.Core.List.{List}
use Prim.Native.Nat.{ℕ, ◌-◌, ◌≤◌, ◌<◌}
use native.Mathlib.Omega.{arith}
use native.Mathlib.Decide.{ℕ_discrete}
use lib.ListN.{length, get_or, set, replicate, length-set, length-replicate}
use lib.Seq.{get_or-set_same, get_or-set_other}
use Rattle.lists.proofs.Picks.{copies_at}

module _ {A : Type 0} (k : ℕ) (d : A) (w : ℕ → A) where
  -- the places above c have what w says, and the others still what all had
  pub record Stored (l : List A) (c : ℕ) : Type 0 where
    pub many : length l ≡ k
    pub seen : (u : ℕ) → c < u → get_or l u d ≡ w u
    pub unseen : (u : ℕ) → u ≤ c → get_or l u d ≡ d

  pub stored_begun : (c : ℕ) → ((u : ℕ) → c < u → w u ≡ d) → Stored (replicate k d) c
  stored_begun c h =
      record {
        many = length-replicate k d;
        seen = λ u l. copies_at d k u ∙ sym (h u l);
        unseen = λ u l. copies_at d k u;
      }

  -- the place c is looked at: it gets what w says, or that is what it has
  pub stored_next : (l : List A) (c : ℕ) {x : A} → 1 ≤ c → c < k → Stored l c → x ≡ w c → Stored (set l c x) (c - 1)
  stored_next l c {x} s m r e =
      record {
        many = length-set l c x ∙ r.many;
        seen =
            λ u h.
            by_cases
            (ℕ_discrete u c)
            (λ q. ap (λ (i : ℕ). get_or (set l c x) i d) q ∙ get_or-set_same l c x d (omega (arith, r.many)) ∙ e ∙ ap w (sym q))
            (λ n. get_or-set_other l c u x d n ∙ r.seen u (omega arith));
        unseen = λ u h. get_or-set_other l c u x d (λ q. absurd (omega arith)) ∙ r.unseen u (omega arith);
      }

  pub stored_left : (l : List A) (c : ℕ) → 1 ≤ c → Stored l c → w c ≡ d → Stored l (c - 1)
  stored_left l c s r e =
      record {
        many = r.many;
        seen = λ u h. by_cases (ℕ_discrete u c) (λ q. ap (λ (i : ℕ). get_or l i d) q ∙ r.unseen c (omega arith) ∙ sym e ∙ ap w (sym q)) (λ n. r.seen u (omega arith));
        unseen = λ u h. r.unseen u (omega arith);
      }
