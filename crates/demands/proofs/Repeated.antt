-- A repeated link counts once, and so does a repeated service link, in all that is weighed, chosen, checked, shown and done. Assumes nothing.
use mathlib.Core.Path.{◌≡◌, sym, ap, ◌∙◌}
use mathlib.Core.Bool.{◌&&◌, cond}
use mathlib.Core.List.{List, [], ◌∷◌, ◌++◌}
use Prim.Native.Nat.{ℕ, ◌/◌}
use lib.Dec.{eqb, leb, ltb}
use lib.ListN.{length, drop}
use Rattle.lists.specs.Lists.{on, first, place}
use Rattle.packing.specs.Packing.{packed}
use Rattle.picture.specs.Refusals.{answer_of}
use Rattle.picture.specs.Layout.{edition_of}
use Rattle.picture.specs.Picture.{picture_of}
use Rattle.picture.specs.Faults.{picture_fault}
use Rattle.network.specs.Repeats.{Repeated}
use Rattle.network.proofs.Repeats.{same_slots, same_blocks, repeated_served_weight, repeated_weighed, repeated_candidates}
use Rattle.weigh.specs.Weighing.{block_fault, weigh_fault, weights_of, weighing}
use Rattle.evidence.specs.declared.Part.{Part}
use Rattle.evidence.specs.Layout.{section_at, section_bytes, evidence_bytes}
use Rattle.evidence.specs.Canonical.{evidence_of}
use Rattle.evidence.specs.Contents.{head_in}
use Rattle.evidence.specs.Calls.{length_for, choose_fault, chosen_bytes, shown_part}
use Rattle.evidence.proofs.Repeats.{repeated_evidence, repeated_check}
use Rattle.choose.specs.Answers.{choosing}
use Rattle.checker.specs.Answers.{checking}
use Rattle.acts.specs.Answers.{acting}
use Rattle.acts.proofs.Repeats.{repeated_act, repeated_after}
use Rattle.demands.specs.Repeats.{CountsOnce}

module _ (bs bs' : List ℕ) (one : edition_of bs ≡ edition_of bs') (fault : picture_fault bs ≡ picture_fault bs') (r : Repeated (picture_of bs) (picture_of bs')) where
  weighs : (b : ℕ) → weighing bs b ≡ weighing bs' b
  unfolding weighing weigh_fault block_fault weights_of
  weighs b =
      λ i.
      answer_of (first (fault i ∷ on (leb (same_blocks r i) b) 8 ∷ []))
      (record { served = repeated_served_weight r i; loss = (repeated_weighed r i b).loss; mark = (repeated_weighed r i b).mark })

  same_length : length_for bs ≡ length_for bs'
  unfolding length_for
  same_length = λ i. evidence_bytes (one i) (same_slots r i) (length (repeated_candidates r i))

  module _ (buf : List ℕ) where
    same_fault : choose_fault bs buf ≡ choose_fault bs' buf
    unfolding choose_fault
    same_fault = λ i. first (fault i ∷ on (ltb (length buf) (same_length i)) 9 ∷ [])

    chooses : choosing bs buf ≡ choosing bs' buf
    unfolding choosing
    chooses = λ i. answer_of (same_fault i) (same_length i)

    leaves : chosen_bytes bs buf ≡ chosen_bytes bs' buf
    unfolding chosen_bytes evidence_of
    leaves = λ i. cond (eqb (same_fault i) 0) (packed (repeated_evidence r (one i) i) ++ drop (same_length i) buf) buf

  module _ (ev : List ℕ) where
    checks : checking bs ev ≡ checking bs' ev
    unfolding checking
    checks = ap (λ (k : ℕ). answer_of k tt) (repeated_check bs bs' one fault r ev)

    shows : shown_part bs ev ≡ shown_part bs' ev
    unfolding shown_part
    shows =
        λ i.
        let n : ℕ = same_slots r i in
        let k : ℕ = place (λ c. eqb c (head_in ev).block) (repeated_candidates r i) in
        let section : Part = record { start = section_at (one i) n k / 8; size = section_bytes (one i) n } in
        cond (eqb (repeated_check bs bs' one fault r ev i) 0 && eqb (head_in ev).verdict 1) section (record { start = 0; size = 0 })

pub counts_once : CountsOnce
unfolding acting
counts_once bs bs' one ok ok' r =
    let fault = ok ∙ sym ok' in
    record {
      weighs = weighs bs bs' one fault r;
      chooses = chooses bs bs' one fault r;
      leaves = leaves bs bs' one fault r;
      checks = checks bs bs' one fault r;
      shows = shows bs bs' one fault r;
      acts = λ a b. ap (λ (k : ℕ). answer_of k tt) (repeated_act bs bs' ok ok' r a b);
      after = repeated_after bs bs' ok ok' r;
    }
