-- The tests of evidence say what its rules say: its form, a section, the served weight and the verdict. Assumes nothing.
use mathlib.Core.Path.{◌≡◌, refl, sym, ◌∙◌, subst₂}
use mathlib.Core.Bool.{Bool, true, ◌&&◌}
use mathlib.Core.Logic.{by_cases}
use mathlib.Core.List.{List}
use Prim.Native.Nat.{ℕ, ◌≤◌, ◌<◌, zero-le}
use native.Mathlib.Omega.{arith}
use native.Mathlib.Decide.{ℕ_discrete}
use borrow.Author.Tests.{eq-eqb}
use Rattle.std.specs.Prelude.{Option}
use lib.Dec.{T, eqb, eqb→eq}
use lib.ListN.{length, get_or}
use Rattle.lists.specs.Lists.{range, all}
use Rattle.lists.proofs.Tests.{and_T, T_and, true_T, is_true, any_at, at_any}
use Rattle.lists.proofs.Sums.{total_one}
use Rattle.picture.specs.declared.Edition.{Edition}
use Rattle.picture.specs.Layout.{}
use Rattle.picture.specs.Picture.{Picture}
use Rattle.network.specs.Words.{slot_count, block_count, is_held, held_without, ServedWeight, Candidate, Named}
use Rattle.network.specs.declared.Cost.{Cost}
use Rattle.network.specs.Tests.{weighed, served_weight, candidates}
use Rattle.network.proofs.Weights.{served_weight_lem, loss_weight, weighed_block, mark_protected, protected_mark, mark_le}
use Rattle.evidence.specs.declared.Head.{Head}
use Rattle.evidence.specs.Canonical.{no_cost, weighings}
use Rattle.evidence.specs.Contents.{head_in, section_in, section_forest}
use Rattle.evidence.specs.Checks.{forest_right, head_right, section_right, sections_right, form_right, verdict_right, head_states, is_named}
use Rattle.evidence.specs.Rules.{Form, SectionCost, LeastAdmissible, Verdict, chosen, none}
use Rattle.lists.proofs.Every.{all_range, range_all}
use Rattle.evidence.proofs.Least.{Least, Right, some, none as nothing, least_same, least_right}
use Rattle.evidence.proofs.Choosing.{least_best, best_least, marked_cut}

-- ---- 13: the form

module _ (e : Edition) (p : Picture) (ev : List ℕ) where
  -- what is asked of a section
  section_form : ℕ → Bool
  section_form i = section_right e (slot_count p) ev i (get_or (candidates p) i 0)

  pub right_form : T (form_right e p ev) → Form e p ev
  unfolding form_right head_right sections_right section_right section_form
  right_form t =
      let cs = candidates p in
      let s = and_T (head_right e (slot_count p) ev (length cs)) (all section_form (range 0 (length cs))) t in
      let h = is_true _ s.0 in
      let each : (i : ℕ) → i < length cs → section_form i ≡ true =
      λ i l. is_true _ (all_range section_form 0 (length cs) s.1 i zero-le (omega arith)) in
      record {
        size = grind arith;
        edition = grind arith;
        verdict = grind arith;
        count = grind arith;
        blocks = λ i l. let f = each i l in grind arith;
        marks = λ i l. let f = each i l in grind arith;
      }

  pub form_right_lem : Form e p ev → T (form_right e p ev)
  unfolding form_right head_right sections_right section_right section_form
  form_right_lem f =
      T_and (head_right e (slot_count p) ev (length (candidates p))) _ (true_T (grind (arith, f.size, f.edition, f.verdict, f.count)))
      (range_all section_form 0 (length (candidates p)) (λ i l h. true_T (grind (arith, f.blocks i (omega arith), f.marks i (omega arith)))))

-- ---- 15: the served weight

module _ {p : Picture} (n : Named p) (w : ℕ) where
  pub right_served : w ≡ served_weight p → ServedWeight p (is_held p) w
  unfolding served_weight
  right_served e = rw e (served_weight_lem n (is_held p))

  pub served_right : ServedWeight p (is_held p) w → w ≡ served_weight p
  unfolding served_weight
  served_right s = total_one s (served_weight_lem n (is_held p))

-- ---- 14 and 15 of a section

module _ (e : Edition) (p : Picture) (ev : List ℕ) (i : ℕ) (w : Cost) where
  unfoldable pub forest_test : Bool
  forest_test = forest_right p (held_without p w.block) (section_forest e (slot_count p) ev i)

  unfoldable pub numbers_test : Bool
  numbers_test = eqb (section_in e (slot_count p) ev i).loss w.loss && eqb (section_in e (slot_count p) ev i).mark w.mark

  pub test_numbers : T numbers_test → ((section_in e (slot_count p) ev i).loss ≡ w.loss) × ((section_in e (slot_count p) ev i).mark ≡ w.mark)
  unfolding numbers_test
  test_numbers t = let e = is_true _ t in (grind arith, grind arith)

  pub numbers_test_lem : (section_in e (slot_count p) ev i).loss ≡ w.loss → (section_in e (slot_count p) ev i).mark ≡ w.mark → T numbers_test
  unfolding numbers_test
  numbers_test_lem l m = true_T (grind arith)

-- ---- 15 of the section of block b, by chains

module _ {p : Picture} (n : Named p) (e : Edition) (ev : List ℕ) (i b : ℕ) where
  pub right_numbers : (section_in e (slot_count p) ev i).loss ≡ (weighed p b).loss → (section_in e (slot_count p) ev i).mark ≡ (weighed p b).mark → SectionCost e p ev i b
  right_numbers l m =
      record { loss = rw l (loss_weight n b); marked = λ o. mark_protected n b (sym m ∙ o); unmarked = λ k. m ∙ protected_mark n b k }

  -- a mark over 1 is a fault of the form
  pub numbers_right : (section_in e (slot_count p) ev i).mark ≤ 1 → SectionCost e p ev i b
      → ((section_in e (slot_count p) ev i).loss ≡ (weighed p b).loss) × ((section_in e (slot_count p) ev i).mark ≡ (weighed p b).mark)
  numbers_right h s = (
    total_one s.loss (loss_weight n b),
    by_cases
        (ℕ_discrete (weighed p b).mark 1)
        (λ o. s.unmarked (mark_protected n b o) ∙ sym o)
        (λ x. by_cases (ℕ_discrete (section_in e (slot_count p) ev i).mark 1) (λ o. o ∙ sym (protected_mark n b (s.marked o))) (λ y. omega (arith, mark_le p b))),
  )

-- ---- 16: the verdict

module _ (b : ℕ) (c w : Cost) where
  test_named : T (is_named b c w) → (w.block ≡ b) × (w.mark ≡ 0) × (w.loss ≡ c.loss) × (w.cuts ≡ c.cuts)
  unfolding is_named
  test_named t = let e = is_true _ t in (grind arith, grind arith, grind arith, grind arith)

  named_test : w.block ≡ b → w.mark ≡ 0 → w.loss ≡ c.loss → w.cuts ≡ c.cuts → T (is_named b c w)
  unfolding is_named
  named_test e m l k = true_T (grind arith)

module _ {p : Picture} (n : Named p) (below : (b : ℕ) → Candidate p b → b < block_count p) where
  states_verdict : {c : Option Cost} → Right (weighings p) c → (h : Head) → T (head_states h (weighings p) c) → Verdict p h.verdict h.block h.loss
  unfolding head_states
  states_verdict (nothing m) h t =
      let e = is_true _ t in
      let v : h.verdict ≡ 0 = grind arith in
      let l : h.loss ≡ 0 = grind arith in
      let b : h.block ≡ 0 = grind arith in
      rw (v, l, b) (none (marked_cut n below m))
  states_verdict (some {c} k) h t =
      let s = and_T (eqb h.verdict 1) _ t in
      let u = and_T (eqb h.loss c.loss) _ s.1 in
      let r = any_at no_cost (is_named h.block c) (weighings p) u.1 in
      let is = test_named h.block c _ r.passes in
      let best : Least (weighings p) (get_or (weighings p) r.at no_cost) =
      record {
        placed = record { at = r.at; within = r.within; same = refl };
        clear = is.1;
        least = λ o m.
            let q = k.best.least o m in
            record { loss = omega (arith, q.loss, is.2); cuts = λ e. omega (arith, q.cuts (sym is.2 ∙ e), is.3) };
      } in
      rw (eqb→eq _ _ s.0) (chosen (subst₂ (LeastAdmissible p) is.0 (is.2 ∙ sym (eqb→eq _ _ u.0)) (least_best n below best)))

  verdict_states : {c : Option Cost} → Right (weighings p) c → (h : Head) → Verdict p h.verdict h.block h.loss → T (head_states h (weighings p) c)
  unfolding head_states
  verdict_states r h v = go r v refl refl refl
    where
      go : {c : Option Cost} → Right (weighings p) c → {v b l : ℕ} → Verdict p v b l → h.verdict ≡ v → h.block ≡ b → h.loss ≡ l
          → T (head_states h (weighings p) c)
      go (nothing m) (none k) v b l = rw (v, b, l) tt
      go (nothing m) (chosen t) v b l = absurd (t.admissible (marked_cut n below m _ t.candidate))
      go (some k) (none m) v b l = let t = least_best n below k.best in absurd (t.admissible (m _ t.candidate))
      go (some {c} k) (chosen t) v b l =
          let o = best_least n below t in
          let q = least_same o k.best in
          rw (eq-eqb _ _ v, eq-eqb _ _ (l ∙ total_one t.stated (loss_weight n _) ∙ q.0))
          (at_any no_cost (is_named h.block c) (weighings p) o.placed.at o.placed.within
          (rw (o.placed.same, b) (named_test _ c _ (weighed_block p _) o.clear q.0 q.1)))

  pub right_verdict : (ev : List ℕ) → T (verdict_right ev (weighings p)) → Verdict p (head_in ev).verdict (head_in ev).block (head_in ev).loss
  unfolding verdict_right
  right_verdict ev = states_verdict (least_right (weighings p)) (head_in ev)

  pub verdict_right_lem : (ev : List ℕ) → Verdict p (head_in ev).verdict (head_in ev).block (head_in ev).loss → T (verdict_right ev (weighings p))
  unfolding verdict_right
  verdict_right_lem ev = verdict_states (least_right (weighings p)) (head_in ev)
