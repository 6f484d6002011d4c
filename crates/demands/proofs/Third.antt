-- The third demand is met. Assumes nothing.
use mathlib.Core.Path.{◌≡◌, refl, ◌∙◌}
use mathlib.Core.Logic.{◌≢◌}
use mathlib.Core.List.{List, [], ◌∷◌}
use Prim.Native.Nat.{ℕ, ◌≤◌}
use native.Mathlib.Omega.{arith}
use Rattle.lists.proofs.Sums.{total_one}
use Rattle.picture.specs.Picture.{Picture, picture_of}
use Rattle.picture.specs.Faults.{picture_fault}
use Rattle.picture.proofs.Refusing.{done_numbers, done_fault, done_unrefused}
use Rattle.network.specs.Words.{is_held, Loss, CutCount, Candidate, Admissible}
use Rattle.network.specs.Tests.{served_weight}
use Rattle.network.proofs.Candidates.{candidate_below}
use Rattle.network.proofs.Named.{accepted_named}
use Rattle.network.proofs.Weights.{served_weight_lem, loss_weight}
use Rattle.evidence.specs.Canonical.{choice, evidence_of}
use Rattle.evidence.specs.Checks.{check_fault}
use Rattle.evidence.specs.Calls.{length_for, choose_fault}
use Rattle.evidence.specs.Rules.{LeastAdmissible, Verdict, chosen, none}
use Rattle.evidence.proofs.Choosing.{choice_lowest}
use Rattle.evidence.proofs.Held.{evidence_reads}
use Rattle.evidence.proofs.Lengths.{choose_takes, chosen_evidence}
use Rattle.evidence.proofs.Passing.{check_passes, passes_check}
use Rattle.evidence.proofs.Canonical.{own_passes}
use Rattle.evidence.proofs.Unique.{verdict_named, same_verdict, same_cuts}
use Rattle.choose.specs.Answers.{choosing}
use Rattle.checker.specs.Answers.{checking, checking_numbers}
use Rattle.acts.specs.declared.Act.TheVariants.{Evict}
use Rattle.acts.specs.Faults.{act_fault}
use Rattle.acts.specs.Answers.{act_bytes, acting}
use Rattle.acts.specs.Acts.{done_bytes}
use Rattle.acts.proofs.Acted.{acted_accepted}
use Rattle.acts.proofs.Evicted.{evicted_served}
use Rattle.acts.proofs.Judged.{done_bytes_lem}
use Rattle.acts.proofs.Choosable.{evict_candidate}
use Rattle.demands.specs.Demands.{Chooses, Checks, Evicts, written, verdict_in, block_in, loss_in, Lowers, AllCut, Proves, ThirdDemand}

-- ---- what the calls answer where there is no fault

chooses : (bs buf : List ℕ) → choose_fault bs buf ≡ 0 → Chooses bs buf
unfolding choosing
chooses bs buf z = done_numbers _ (length_for bs) z

checks : (bs ev : List ℕ) → check_fault bs ev ≡ 0 → Checks bs ev
unfolding checking
checks bs ev z = record { number = done_numbers _ tt z; unrefused = done_unrefused tt z }

-- an answer of 0 is of evidence without a fault
checked : (bs ev : List ℕ) → checking_numbers (checking bs ev) ≡ 0 ∷ [] → check_fault bs ev ≡ 0
unfolding checking
checked bs ev e = done_fault (λ _. []) tt _ e

evicts : (bs : List ℕ) (b : ℕ) → act_fault Evict bs b ≡ 0 → Evicts bs b
unfolding acting
evicts bs b z = record { number = done_numbers _ tt z; unrefused = done_unrefused tt z }

-- ---- what a right verdict says

none_all : {p : Picture} {v b l : ℕ} → Verdict p v b l → v ≡ 0 → AllCut p
none_all (chosen n) e = absurd (omega arith)
none_all (none k) e = k

all_none : {p : Picture} {v b l : ℕ} → Verdict p v b l → AllCut p → v ≡ 0
all_none (chosen {block = b} n) k = absurd (n.admissible (k b n.candidate))
all_none (none k) _ = refl

-- ---- what is named

module _ (bs : List ℕ) (ok : picture_fault bs ≡ 0) where
  -- it is the lowest of those that lose as much and cut as many
  lowest_named : verdict_in (evidence_of bs) ≢ 0 → {k : ℕ} → CutCount (picture_of bs) (block_in (evidence_of bs)) k → (b : ℕ) → Candidate (picture_of bs) b
      → Admissible (picture_of bs) b → Loss (picture_of bs) b (loss_in (evidence_of bs)) → CutCount (picture_of bs) b k → block_in (evidence_of bs) ≤ b
  unfolding choice
  lowest_named v u b c a l t =
      let r = evidence_reads bs ok in
      rw r.block (choice_lowest (accepted_named bs ok) (candidate_below bs ok) (λ z. v (r.verdict ∙ z)) (rw r.block at u) b c a (rw r.loss at l) t)

  module _ {b l : ℕ} (n : LeastAdmissible (picture_of bs) b l) where
    evicts_named : act_fault Evict bs b ≡ 0
    evicts_named = evict_candidate bs b ok n.candidate n.admissible

    -- evicting it leaves an accepted picture
    accepted_after : picture_fault (act_bytes Evict bs b) ≡ 0
    accepted_after = rw (done_bytes_lem Evict bs b evicts_named) (acted_accepted Evict bs b ok (candidate_below bs ok b n.candidate))

    -- the served weight before is that after with the loss added
    lowers_named : Lowers (picture_of bs) (picture_of (act_bytes Evict bs b)) l
    unfolding served_weight
    lowers_named =
        let p = picture_of bs in
        let there = candidate_below bs ok b n.candidate in
        let done = done_bytes Evict bs b in
        rw (done_bytes_lem Evict bs b evicts_named)
        (record {
          weight = served_weight (picture_of done);
          afterwards = served_weight_lem (accepted_named done (acted_accepted Evict bs b ok there)) (is_held (picture_of done));
          earlier =
              rw (total_one n.stated (loss_weight (accepted_named bs ok) b), evicted_served bs b ok there)
              (served_weight_lem (accepted_named bs ok) (is_held p));
        })

-- ---- all of it

written_fixed : (bs buf : List ℕ) → choose_fault bs buf ≡ 0 → written bs buf ≡ evidence_of bs
unfolding written
written_fixed bs buf z = chosen_evidence bs buf z

fixed_proves : (bs : List ℕ) → picture_fault bs ≡ 0 → Proves bs (evidence_of bs)
fixed_proves bs ok =
    let ev = evidence_of bs in
    let passing = own_passes bs ok in
    let right = passing.verdict in
    record {
      none_cuts = none_all right;
      cuts_none = all_none right;
      verdict = passing.form.verdict;
      names = λ m.
          let n = verdict_named right m in
          record {
            candidate = n.candidate;
            admissible = n.admissible;
            loss = n.stated;
            least = n.least;
            cuts = n.cuts;
            counted = n.counted;
            fewest = n.fewest;
            lowest = lowest_named bs ok m n.counted;
            evicts = evicts bs _ (evicts_named bs ok n);
            accepted = accepted_after bs ok n;
            lowers = lowers_named bs ok n;
          };
      fixed = refl;
      passes = checks bs ev (passes_check bs ev passing);
      verdicts = λ other z. (same_verdict (check_passes bs other (checked bs other z)) passing).0;
      losses = λ other z. (same_verdict (check_passes bs other (checked bs other z)) passing).1;
      numbers = λ other z k l. same_cuts (check_passes bs other (checked bs other z)) passing;
    }

pub third_demand : ThirdDemand
third_demand bs buf ok fits =
    let z = choose_takes bs buf ok fits in
    (chooses bs buf z, rw (written_fixed bs buf z) (fixed_proves bs ok))
