-- An act's number is that of the first rule that is broken, and an act is done exactly where every rule is kept. Assumes nothing.
use mathlib.Core.Path.{◌≡◌, refl}
use mathlib.Core.Bool.{Bool, not, ◌&&◌}
use mathlib.Core.Logic.{◌≢◌, ⊎_elim}
use mathlib.Core.List.{List, [], ◌∷◌}
use Prim.Native.Nat.{ℕ, ◌+◌, ◌*◌, ◌<◌}
use native.Mathlib.Omega.{arith}
use borrow.Author.Tests.{eq-eqb, ne_eqb}
use lib.Dec.{T, eqb, leb, ltb, T_not, not_T, eqb→eq, leb→le, nleb→lt, ltb→lt, lt→ltb}
use Rattle.lists.specs.Lists.{range, any}
use Rattle.lists.specs.Rules.{Rule, Judged, AllHold, more, none}
use Rattle.lists.proofs.Tests.{and_T, T_and, or_T, not_or, eq_T}
use Rattle.lists.proofs.Ranges.{any_range, range_any}
use Rattle.lists.proofs.Faults.{on_zero, on_true, on_told, judge, judge_test, judge_right, judge_none, Numbered, judged_all, all_judged}
use Rattle.lists.proofs.Rules.{judged_then, numbered_both, hold_left, hold_right, hold_both}
use Rattle.picture.specs.Picture.{Picture, picture_of, slot_of}
use Rattle.picture.specs.Faults.{picture_fault}
use Rattle.picture.specs.Rules.{rules}
use Rattle.picture.proofs.Accepted.{picture_judged, numbered}
use Rattle.network.specs.Words.{slot_count, block_count, in_block, is_held, without_block, Named}
use Rattle.network.proofs.Named.{accepted_named}
use Rattle.network.proofs.Candidates.{near_slot}
use Rattle.network.proofs.Weights.{cut_protected_loses, loses_cut_protected}
use Rattle.weigh.specs.Weighing.{block_fault}
use Rattle.acts.specs.declared.Act.{Act}
use Rattle.acts.specs.declared.Act.TheVariants.{Evict, Reload, Free}
use Rattle.acts.specs.Faults.{changes, cuts_over, cut_fault, near_fault, act_fault}
use Rattle.acts.specs.Answers.{act_bytes}
use Rattle.acts.specs.Acts.{after, held_or_recoverable, block_slots, recoverable_near, near_after, done_bytes}
use Rattle.acts.specs.Rules.{Changes, CutsOver, Spares, Crowds, Leaves, act_rules}
use Rattle.acts.proofs.Slots.{in_block_lem, block_in_lem}

module _ (p : Picture) (b : ℕ) where
  -- ---- the tests say what the rules say

  pub test_changes : (a : Act) → T (changes a p b) → Changes a p b
  unfolding changes block_slots
  test_changes a t =
      let r = any_range (λ v. not (eqb (after a (slot_of p v).state) (slot_of p v).state)) (b * p.block_size + 1) p.block_size t in
      let v = r.number in
      record {
        slot = v;
        inside = block_in_lem p b v r.from (omega arith);
        other = λ e. T_not (eqb (after a (slot_of p v).state) (slot_of p v).state) r.passes (eq_T _ _ e);
      }

  pub changes_test : {a : Act} → Changes a p b → T (changes a p b)
  unfolding changes block_slots
  changes_test {a} c =
      let v = c.slot in
      let l = in_block_lem p b v c.inside in
      range_any (λ v. not (eqb (after a (slot_of p v).state) (slot_of p v).state)) (b * p.block_size + 1) p.block_size
      (record { number = v; from = l.0; below = omega arith; passes = not_T (eqb (after a (slot_of p v).state) (slot_of p v).state) (λ t. c.other (eqb→eq _ _ t)) })

  test_crowds : T (any (recoverable_near p b) (range 1 (slot_count p)) && ltb p.near_limit (near_after p b)) → Crowds p b
  unfolding recoverable_near
  test_crowds t =
      let s = and_T (any (recoverable_near p b) (range 1 (slot_count p))) (ltb p.near_limit (near_after p b)) t in
      let r = any_range (recoverable_near p b) 1 (slot_count p) s.0 in
      let v = r.number in
      let u = and_T (in_block p b v) ((slot_of p v).near && eqb (slot_of p v).state 1) r.passes in
      let w = and_T (slot_of p v).near (eqb (slot_of p v).state 1) u.1 in
      record { slot = v; inside = u.0; near = w.0; recoverable = eqb→eq _ _ w.1; over = ltb→lt _ _ s.1 }

  crowds_test : Crowds p b → T (any (recoverable_near p b) (range 1 (slot_count p)) && ltb p.near_limit (near_after p b))
  unfolding recoverable_near
  crowds_test c =
      let v = c.slot in
      let l = near_slot p v c.near in
      T_and (any (recoverable_near p b) (range 1 (slot_count p))) (ltb p.near_limit (near_after p b))
      (range_any (recoverable_near p b) 1 (slot_count p)
      (record { number = v; from = l.0; below = omega arith; passes = T_and (in_block p b v) _ c.inside (T_and (slot_of p v).near _ c.near (eq_T _ _ c.recoverable)) }))
      (lt→ltb _ _ c.over)

  -- ---- and so do the numbers

  module _ (n : Named p) where
    -- over any locations
    over_spares : (held : ℕ → Bool) → T (not (cuts_over p held b)) → ¬ CutsOver p held b
    unfolding cuts_over
    over_spares held t k = T_not (cuts_over p held b) t (loses_cut_protected n k)

    over_cuts : (held : ℕ → Bool) → T (cuts_over p held b) → CutsOver p held b
    unfolding cuts_over
    over_cuts held t = cut_protected_loses n held (without_block p held b) t

    cut_spares : (a : Act) → cut_fault a p b ≡ 0 → Spares a p b
    unfolding cut_fault
    cut_spares Evict e = over_spares (is_held p) (on_zero _ 9 e)
    cut_spares Reload e = tt
    cut_spares Free e =
        let t = not_or (cuts_over p (is_held p) b) (cuts_over p (held_or_recoverable p) b) (on_zero _ 9 e) in
        (over_spares (is_held p) t.0, over_spares (held_or_recoverable p) t.1)

    cut_breaks : (a : Act) → cut_fault a p b ≢ 0 → ¬ Spares a p b × (cut_fault a p b ≡ 10)
    unfolding cut_fault
    cut_breaks Evict z = (λ s. s (over_cuts (is_held p) (on_true _ 10 z)), on_told _ 10 z)
    cut_breaks Reload z = absurd (z refl)
    cut_breaks Free z =
        let t = or_T (cuts_over p (is_held p) b) (cuts_over p (held_or_recoverable p) b) (on_true _ 10 z) in
        (λ s. ⊎_elim (λ x. s.0 (over_cuts (is_held p) x)) (λ x. s.1 (over_cuts (held_or_recoverable p) x)) t, on_told _ 10 z)

  near_leaves : (a : Act) → near_fault a p b ≡ 0 → Leaves a p b
  unfolding near_fault
  near_leaves Evict e = tt
  near_leaves Reload e = λ c. T_not (any (recoverable_near p b) (range 1 (slot_count p)) && ltb p.near_limit (near_after p b)) (on_zero _ 11 e) (crowds_test c)
  near_leaves Free e = tt

  near_breaks : (a : Act) → near_fault a p b ≢ 0 → ¬ Leaves a p b × (near_fault a p b ≡ 12)
  unfolding near_fault
  near_breaks Evict z = absurd (z refl)
  near_breaks Reload z = (λ s. s (test_crowds (on_true _ 12 z)), on_told _ 12 z)
  near_breaks Free z = absurd (z refl)

-- ---- the number, and when an act is done

-- every rule is kept, as a record
pub record Doable (a : Act) (bs : List ℕ) (b : ℕ) : Type 0 where
  pub accepted : picture_fault bs ≡ 0
  pub there : b < block_count (picture_of bs)
  pub changes : Changes a (picture_of bs) b
  pub spares : Spares a (picture_of bs) b
  pub leaves : Leaves a (picture_of bs) b

module _ (a : Act) (bs : List ℕ) (b : ℕ) where
  -- which number
  pub act_judged : Judged (act_rules a bs b) (act_fault a bs b)
  unfolding act_rules act_fault block_fault
  act_judged =
      let p = picture_of bs in
      judged_then _ (picture_judged bs) (numbered bs)
      (λ z.
      judge_test _ _ (leb (block_count p) b) _ (λ e. absurd (omega arith)) (nleb→lt (block_count p) b) (λ t l. absurd (omega (arith, leb→le (block_count p) b t)))
      (judge_right _ _ (changes a p b) _ (λ e. absurd (omega arith)) (test_changes p b a) (changes_test p b)
      (judge _ _ (cut_fault a p b) _ (cut_spares p b (accepted_named bs z) a) (cut_breaks p b (accepted_named bs z) a)
      (judge _ _ (near_fault a p b) _ (near_leaves p b a) (near_breaks p b a) judge_none))))

  act_numbered : Numbered (act_rules a bs b)
  unfolding act_rules
  act_numbered =
      numbered_both (rules bs) _ (numbered bs) (λ e. absurd (omega arith), (λ e. absurd (omega arith), (λ e. absurd (omega arith), (λ e. absurd (omega arith), tt))))

  -- done exactly where every rule is kept
  pub done_holds : act_fault a bs b ≡ 0 → AllHold (act_rules a bs b)
  done_holds z = judged_all act_judged act_numbered z

  pub holds_done : AllHold (act_rules a bs b) → act_fault a bs b ≡ 0
  holds_done k = all_judged act_judged k

  pub doable_done : Doable a bs b → act_fault a bs b ≡ 0
  unfolding act_rules
  doable_done d =
      holds_done
      (hold_both (judged_all (picture_judged bs) (numbered bs) d.accepted) (more d.there (more d.changes (more d.spares (more d.leaves none)))))

  pub done_doable : act_fault a bs b ≡ 0 → Doable a bs b
  unfolding act_rules
  done_doable z =
      let held = done_holds z in
      let own = four (hold_right (rules bs) _ held) in
      record { accepted = all_judged (picture_judged bs) (hold_left (rules bs) _ held); there = own.0; changes = own.1; spares = own.2; leaves = own.3 }
    where
      four : {r s t u : Rule} → AllHold (r ∷ s ∷ t ∷ u ∷ []) → r.holds × s.holds × t.holds × u.holds
      four (more w (more x (more y (more z none)))) = (w, x, y, z)

  -- ---- the bytes at exit

  pub done_bytes_lem : act_fault a bs b ≡ 0 → act_bytes a bs b ≡ done_bytes a bs b
  unfolding act_bytes
  done_bytes_lem e = rw (eq-eqb (act_fault a bs b) 0 e)

  -- a refusal leaves every byte
  pub refused_bytes : act_fault a bs b ≢ 0 → act_bytes a bs b ≡ bs
  unfolding act_bytes
  refused_bytes n = rw (ne_eqb (act_fault a bs b) 0 n)
