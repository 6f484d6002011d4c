-- What is chosen of a list of costs: the first of the least among those without a mark, or none where each has a mark. Assumes nothing.
use mathlib.Core.Path.{◌≡◌, refl, sym, ap, ◌∙◌, subst}
use mathlib.Core.Bool.{Bool, true, false, ◌&&◌, cond}
use mathlib.Core.Logic.{◌⊎◌, inl, inr, ◌≢◌, ⊎_elim, by_cases}
use mathlib.Core.List.{List, [], ◌∷◌, ◌++◌, append-nil, append_assoc}
use Prim.Native.Nat.{◌≤◌, ◌<◌}
use native.Mathlib.Omega.{arith}
use native.Mathlib.Decide.{dec_lt, ℕ_discrete}
use borrow.Author.Tests.{eq-eqb, ne_eqb}
use Rattle.std.specs.Prelude.{Option, Some, None}
use lib.Dec.{eqb}
use lib.ListN.{length, length-append, get_or-append}
use lib.Seq.{get_or-append_seam}
use Rattle.lists.specs.Lists.{Placed}
use Rattle.network.specs.declared.Cost.{Cost}
use Rattle.evidence.specs.Canonical.{no_cost, is_less, bettered, bettering, least}

-- ---- one cost more

-- a loses no more than c and, where it loses as much, cuts no more endpoints
pub record NoMore (a c : Cost) : Type 0 where
  pub loss : a.loss ≤ c.loss
  pub cuts : a.loss ≡ c.loss → a.cuts ≤ c.cuts

-- a comes before c: where it loses as much, it cuts fewer
pub record Less (a c : Cost) : Type 0 where
  pub loss : a.loss ≤ c.loss
  pub cuts : a.loss ≡ c.loss → a.cuts < c.cuts

no_more_self : (c : Cost) → NoMore c c
no_more_self c = record { loss = omega arith; cuts = λ _. omega arith }

less_no_more : {a c : Cost} → Less a c → NoMore a c
less_no_more l = record { loss = l.loss; cuts = λ e. omega (arith, l.cuts e) }

less_then : {a b c : Cost} → Less a b → NoMore b c → Less a c
less_then l m =
    record {
      loss = omega (arith, l.loss, m.loss);
      cuts = λ e. omega (arith, l.cuts (omega (arith, l.loss, m.loss)), m.cuts (omega (arith, l.loss, m.loss)));
    }

-- two of which neither has more are equal
pub no_more_both : {a c : Cost} → NoMore a c → NoMore c a → (a.loss ≡ c.loss) × (a.cuts ≡ c.cuts)
no_more_both {a} {c} m o =
    let e : a.loss ≡ c.loss = omega (arith, m.loss, o.loss) in
    (e, omega (arith, m.cuts e, o.cuts (sym e)))

module _ (w c : Cost) where
  test_less : is_less w c ≡ true → Less w c
  unfolding is_less
  test_less t = record { loss = grind arith; cuts = λ e. grind arith }

  test_no_less : is_less w c ≡ false → NoMore c w
  unfolding is_less
  test_no_less t = record { loss = grind arith; cuts = λ e. grind arith }

-- ---- all costs of a list

-- c is a cost without a mark, and none such comes before it: any of the least, not only the first
pub record Least (ws : List Cost) (c : Cost) : Type 0 where
  pub placed : Placed no_cost ws c
  pub clear : c.mark ≡ 0
  pub least : {w : Cost} → Placed no_cost ws w → w.mark ≡ 0 → NoMore c w

-- two such lose and cut as much
pub least_same : {ws : List Cost} {a c : Cost} → Least ws a → Least ws c → (a.loss ≡ c.loss) × (a.cuts ≡ c.cuts)
least_same k l = no_more_both (k.least l.placed l.clear) (l.least k.placed k.clear)

-- c is the first of these
pub record Chosen (ws : List Cost) (c : Cost) : Type 0 where
  pub best : Least ws c
  pub first : {w : Cost} (o : Placed no_cost ws w) → o.at < best.placed.at → w.mark ≡ 0 → Less c w

-- such a one is chosen, or nothing where each cost has a mark
pub data Right (ws : List Cost) : Option Cost → Type 0 where
  some : {c : Cost} → Chosen ws c → Right ws (Some c)
  none : ((w : Cost) → Placed no_cost ws w → w.mark ≢ 0) → Right ws None

-- with one cost more at the end
module _ (ws : List Cost) (w : Cost) where
  abbrev more : List Cost
  more = ws ++ (w ∷ [])

  abbrev still : {x : Cost} → Placed no_cost ws x → Placed no_cost more x
  still o =
      record {
        at = o.at;
        within = omega (arith, o.within, length-append ws (w ∷ []));
        same = get_or-append ws (w ∷ []) no_cost o.at o.within ∙ o.same;
      }

  abbrev earlier : {x : Cost} (o : Placed no_cost more x) → o.at < length ws → Placed no_cost ws x
  earlier o h = record { at = o.at; within = h; same = sym (get_or-append ws (w ∷ []) no_cost o.at h) ∙ o.same }

  earlier_last : {x : Cost} → Placed no_cost more x → Placed no_cost ws x ⊎ (w ≡ x)
  earlier_last o =
      by_cases (dec_lt o.at (length ws)) (λ h. inl (earlier o h))
      (λ h.
      let e : o.at ≡ length ws = omega (arith, o.within, length-append ws (w ∷ [])) in
      inr (sym (get_or-append_seam ws w [] no_cost) ∙ rw (← e) o.same))

  -- it is chosen where it comes before all others
  taken : w.mark ≡ 0 → ((x : Cost) → Placed no_cost ws x → x.mark ≡ 0 → Less w x) → Right more (Some w)
  taken m before =
      some
      (record {
        best =
            record {
              placed = record { at = length ws; within = omega (arith, length-append ws (w ∷ [])); same = get_or-append_seam ws w [] no_cost };
              clear = m;
              least = λ o e. ⊎_elim (λ q. less_no_more (before _ q e)) (λ q. subst (NoMore w) q (no_more_self w)) (earlier_last o);
            };
        first = λ o h e. before _ (earlier o h) e;
      })

  -- what was chosen before stays where it has no more
  stays : {c : Cost} → Chosen ws c → (w.mark ≡ 0 → NoMore c w) → Right more (Some c)
  stays {c} k n =
      let b = k.best in
      some
      (record {
        best =
            record {
              placed = still b.placed;
              clear = b.clear;
              least = λ o e. ⊎_elim (λ q. b.least q e) (λ q. subst (NoMore c) q (n (ap (λ (x : Cost). x.mark) q ∙ e))) (earlier_last o);
            };
        first = λ o h e. k.first (earlier o (omega (arith, h, b.placed.within))) h e;
      })

  right_more : {c : Option Cost} → Right ws c → Right more (bettered c w)
  unfolding bettered
  right_more (none marked) = by_cases (ℕ_discrete w.mark 0)
      (λ m. rw (eq-eqb _ _ m) (taken m (λ x o e. absurd (marked x o e))))
      (λ m. rw (ne_eqb _ _ m) (none (λ x o e. ⊎_elim (λ q. marked x q e) (λ q. m (ap (λ (x : Cost). x.mark) q ∙ e)) (earlier_last o))))
  right_more (some {c} k) = go (eqb w.mark 0 && is_less w c) refl
    where
      go : (b : Bool) → (eqb w.mark 0 && is_less w c) ≡ b → Right more (cond b (Some w) (Some c))
      go true e = taken (grind arith) (λ x o m. less_then (test_less w c (grind arith)) (k.best.least o m))
      go false e = stays k (λ m. test_no_less w c (rw (eq-eqb _ _ m) at e))

right_after : (seen : List Cost) {c : Option Cost} → Right seen c → (ws : List Cost) → Right (seen ++ ws) (bettering c ws)
unfolding bettering
right_after seen r [] = rw append-nil r
right_after seen r (w ∷ ws) = rw (← append_assoc seen (w ∷ []) ws) (right_after (seen ++ (w ∷ [])) (right_more seen w r) ws)

pub least_right : (ws : List Cost) → Right ws (least ws)
unfolding least
least_right ws = right_after [] (none (λ w o. absurd (omega (arith, o.within)))) ws

-- one more at the end
bettering_more : (c : Option Cost) (ws : List Cost) (w : Cost) → bettering c (ws ++ (w ∷ [])) ≡ bettered (bettering c ws) w
unfolding bettering
bettering_more c [] w = refl
bettering_more c (x ∷ ws) w = bettering_more (bettered c x) ws w

pub least_last : (ws : List Cost) (w : Cost) → least (ws ++ (w ∷ [])) ≡ bettered (least ws) w
unfolding least
least_last = bettering_more None
