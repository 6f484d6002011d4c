-- The choice of a picture is the verdict that the rules ask for, and of the least candidates it names the lowest. Assumes nothing.
use mathlib.Core.Path.{◌≡◌, refl, sym, ap, ◌∙◌}
use mathlib.Core.Logic.{◌≢◌, by_cases}
use Prim.Native.Nat.{ℕ, ◌≤◌, ◌<◌}
use native.Mathlib.Omega.{arith}
use native.Mathlib.Decide.{dec_lt, ℕ_discrete}
use Rattle.std.specs.Prelude.{Option}
use lib.ListN.{length, get_or}
use Rattle.lists.specs.Lists.{Placed}
use Rattle.lists.proofs.Sums.{total_one}
use Rattle.picture.specs.Picture.{Picture}
use Rattle.network.specs.Words.{block_count, Candidate, CutsProtected, Admissible, Loss, CutCount, Named}
use Rattle.network.specs.declared.Cost.{Cost}
use Rattle.network.specs.Tests.{weighed, candidates}
use Rattle.network.proofs.Candidates.{candidates_all, candidates_rise}
use Rattle.network.proofs.Weights.{loss_weight, cuts_counted, weighed_block}
use Rattle.evidence.specs.Canonical.{no_cost, weighings, choice, verdict_of, chosen_block, chosen_loss}
use Rattle.evidence.specs.Rules.{LeastAdmissible, Verdict, chosen, none}
use Rattle.evidence.proofs.Least.{NoMore, Least, Right, some, none as nothing, least_right}
use Rattle.evidence.proofs.Weighings.{Weighing, of, weighings_length, weighing_at, candidate_weighing, weighing_candidate, clear_admissible, marked_protected, admissible_clear}

module _ {p : Picture} (n : Named p) (below : (b : ℕ) → Candidate p b → b < block_count p) where
  pub least_best : {c : Cost} → Least (weighings p) c → LeastAdmissible p c.block c.loss
  least_best l = go (weighing_candidate p l.placed) l
    where
      go : {c : Cost} → Weighing p c → Least (weighings p) c → LeastAdmissible p c.block c.loss
      go (of b c) l =
          let no_more : (d : ℕ) → Candidate p d → Admissible p d → NoMore (weighed p b) (weighed p d) =
          λ d k a. l.least (candidate_weighing p below k) (admissible_clear n d a) in
          rw (weighed_block p b)
          (record {
            candidate = c;
            admissible = clear_admissible n b l.clear;
            stated = loss_weight n b;
            least = λ d k a w s. omega (arith, (no_more d k a).loss, total_one s (loss_weight n d));
            cuts = (weighed p b).cuts;
            counted = cuts_counted n b;
            fewest = λ d k a s m t. omega (arith, (no_more d k a).cuts (total_one s (loss_weight n d)), total_one t (cuts_counted n d));
          })

  pub best_least : {block loss : ℕ} → LeastAdmissible p block loss → Least (weighings p) (weighed p block)
  best_least {block} {loss} t =
      record {
        placed = candidate_weighing p below t.candidate;
        clear = admissible_clear n block t.admissible;
        least = λ o m. go (weighing_candidate p o) m;
      }
    where
      go : {w : Cost} → Weighing p w → w.mark ≡ 0 → NoMore (weighed p block) w
      go (of b c) m =
          let a = clear_admissible n b m in
          let l = total_one (loss_weight n block) t.stated in
          let k = total_one (cuts_counted n block) t.counted in
          record {
            loss = omega (arith, l, t.least b c a _ (loss_weight n b));
            cuts = λ e. omega (arith, k, t.fewest b c a (rw (sym l ∙ e) (loss_weight n b)) _ (cuts_counted n b));
          }

  pub marked_cut : ((w : Cost) → Placed no_cost (weighings p) w → w.mark ≢ 0) → (b : ℕ) → Candidate p b → CutsProtected p b
  marked_cut m b c = marked_protected n b (m (weighed p b) (candidate_weighing p below c))

  pub cut_marked : ((b : ℕ) → Candidate p b → CutsProtected p b) → (w : Cost) → Placed no_cost (weighings p) w → w.mark ≢ 0
  cut_marked k w o = go (weighing_candidate p o)
    where
      go : {w : Cost} → Weighing p w → w.mark ≢ 0
      go (of b c) z = clear_admissible n b z (k b c)

  pub choice_as_ruled : Verdict p (verdict_of (choice p)) (chosen_block (choice p)) (chosen_loss (choice p))
  unfolding choice
  choice_as_ruled = go (least_right (weighings p))
    where
      go : {c : Option Cost} → Right (weighings p) c → Verdict p (verdict_of c) (chosen_block c) (chosen_loss c)
      go (some k) = chosen (least_best k.best)
      go (nothing m) = none (marked_cut m)

  -- of the admissible candidates that lose as much and cut as many, none has a lower number: the candidates rise
  pub choice_lowest : verdict_of (choice p) ≢ 0 → {k : ℕ} → CutCount p (chosen_block (choice p)) k → (b : ℕ) → Candidate p b → Admissible p b
      → Loss p b (chosen_loss (choice p)) → CutCount p b k → chosen_block (choice p) ≤ b
  unfolding choice
  choice_lowest v {k} u b c a s t = go (least_right (weighings p)) v u s
    where
      go : {x : Option Cost} → Right (weighings p) x → verdict_of x ≢ 0 → CutCount p (chosen_block x) k → Loss p b (chosen_loss x)
          → chosen_block x ≤ b
      go (nothing m) v u s = absurd (v refl)
      go (some {c = x} o) v u s =
          let cs = candidates p in
          let q = o.best.placed in
          let r = candidates_all p (below b c) c in
          let d = get_or cs q.at 0 in
          let here : q.at < length cs = omega (arith, q.within, weighings_length p) in
          let same : x ≡ weighed p d = sym q.same ∙ weighing_at p q.at here in
          let there : Placed no_cost (weighings p) (weighed p b) =
          record { at = r.at; within = omega (arith, r.within, weighings_length p); same = weighing_at p r.at r.within ∙ ap (weighed p) r.same } in
          let block : x.block ≡ d = ap (λ (y : Cost). y.block) same ∙ weighed_block p d in
          let few : x.cuts ≡ k = ap (λ (y : Cost). y.cuts) same ∙ total_one (cuts_counted n d) (rw block at u) in
          let fewer : r.at < q.at → x.cuts < (weighed p b).cuts =
          λ l. (o.first there l (admissible_clear n b a)).cuts (total_one s (loss_weight n b)) in
          by_cases (dec_lt r.at q.at) (λ l. absurd (omega (arith, fewer l, few, total_one (cuts_counted n b) t)))
          (λ g. by_cases (ℕ_discrete q.at r.at)
          (λ e. omega (arith, block, ap (λ (j : ℕ). get_or cs j 0) e, r.same))
          (λ m. omega (arith, block, candidates_rise p q.at r.at (omega arith) r.within, r.same)))
