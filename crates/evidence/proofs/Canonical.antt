-- The evidence of an accepted picture keeps the rules, so that it passes the check. Assumes nothing.
use mathlib.Core.Path.{◌≡◌}
use mathlib.Core.Bool.{Bool}
use mathlib.Core.List.{List}
use Prim.Native.Nat.{ℕ, ◌<◌}
use native.Mathlib.Omega.{arith}
use lib.ListN.{length, get_or}
use Rattle.graph.specs.Kept.{ForestKept}
use Rattle.graph.proofs.Keeping.{forest_kept}
use Rattle.picture.specs.declared.Edition.{Edition}
use Rattle.picture.specs.Layout.{}
use Rattle.picture.specs.Picture.{Picture, picture_of}
use Rattle.picture.specs.Faults.{picture_fault}
use Rattle.network.specs.Words.{slot_count, is_held, held_without, joins, Named}
use Rattle.network.specs.Tests.{candidates}
use Rattle.network.proofs.Named.{accepted_named}
use Rattle.network.proofs.Weights.{mark_le}
use Rattle.evidence.specs.Canonical.{choice, forest_of, evidence_of}
use Rattle.evidence.proofs.Fields.{choice_fits, length_evidence}
use Rattle.evidence.proofs.Held.{Reads, evidence_reads}
use Rattle.network.proofs.Candidates.{candidate_below}
use Rattle.evidence.proofs.Choosing.{choice_as_ruled}
use Rattle.evidence.proofs.Judging.{right_served, right_numbers}
use Rattle.evidence.proofs.Passing.{Section, Passes}

-- the forest of fewest links keeps the rules
own_kept : {p : Picture} → Named p → (held : ℕ → Bool) → ForestKept (joins p.links) held (slot_count p) (forest_of p held)
unfolding forest_of
own_kept {p} n held = forest_kept (joins p.links) held (slot_count p) n.links

module _ {e : Edition} {p : Picture} {ev : List ℕ} (n : Named p) (r : Reads e p ev) where
  own_section : (i : ℕ) → i < length (candidates p) → Section e p ev i (get_or (candidates p) i 0)
  own_section i h =
      let b = get_or (candidates p) i 0 in
      record { forest = rw (r.forests i h) (own_kept n (held_without p b)); numbers = right_numbers n e ev i b (r.losses i h) (r.marks i h) }

pub own_passes : (bs : List ℕ) → picture_fault bs ≡ 0 → Passes bs (evidence_of bs)
unfolding choice
own_passes bs z =
    let p = picture_of bs in
    let n = accepted_named bs z in
    let r = evidence_reads bs z in
    record {
      accepted = z;
      form =
          record {
            size = length_evidence bs;
            edition = r.edition;
            verdict = omega (arith, r.verdict, (choice_fits bs z).0);
            count = r.count;
            blocks = r.blocks;
            marks = λ i h. omega (arith, r.marks i h, mark_le p (get_or (candidates p) i 0));
          };
      forest = rw r.forest (own_kept n (is_held p));
      served = right_served n _ r.served;
      sections = own_section n r;
      verdict = rw (r.verdict, r.block, r.loss) (choice_as_ruled n (candidate_below bs z));
    }
