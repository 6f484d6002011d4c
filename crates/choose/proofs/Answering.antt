-- The number of the first fault of choosing, and the buffer that it leaves. Assumes nothing.
use mathlib.Core.Path.{◌≡◌, sym, ◌∙◌}
use mathlib.Core.List.{List, ◌++◌}
use Prim.Native.Nat.{ℕ, ◌≤◌, ◌<◌}
use borrow.Author.Tests.{ne_eqb, lt-ltb}
use lib.ListN.{length, drop}
use Rattle.lists.specs.Lists.{on}
use Rattle.picture.specs.declared.refusals.Refusal.{Refusal}
use Rattle.picture.specs.declared.refusals.Refusal.TheVariants.{Buffer}
use Rattle.picture.specs.Refusals.{refusal_number}
use Rattle.picture.specs.Faults.{picture_fault}
use Rattle.picture.proofs.Refusing.{number_some, refused_first, passed_first}
use Rattle.evidence.specs.Canonical.{evidence_of}
use Rattle.evidence.specs.Calls.{length_for, choose_fault, chosen_bytes}
use Rattle.evidence.proofs.Lengths.{choose_takes}

module _ (bs buf : List ℕ) where
  -- the picture has a fault
  pub choose_faulty : (e : Refusal) → refusal_number e ≡ picture_fault bs → refusal_number e ≡ choose_fault bs buf
  unfolding choose_fault
  choose_faulty e q = refused_first e _ q

  -- the buffer is too short
  pub choose_short : picture_fault bs ≡ 0 → length buf < length_for bs → refusal_number Buffer ≡ choose_fault bs buf
  unfolding choose_fault on
  choose_short z l = passed_first _ (sym z) (refused_first Buffer _ (rw (lt-ltb (length buf) (length_for bs) l)))

  -- a refusal leaves the buffer
  pub choose_leaves : (e : Refusal) → refusal_number e ≡ choose_fault bs buf → buf ≡ chosen_bytes bs buf
  unfolding chosen_bytes
  choose_leaves e q = rw (ne_eqb (choose_fault bs buf) 0 (λ z. number_some e (q ∙ z)))

  -- nothing is wrong, and the evidence is written
  pub choose_writes : {out : List ℕ} → picture_fault bs ≡ 0 → length_for bs ≤ length buf → out ≡ evidence_of bs ++ drop (length_for bs) buf → out ≡ chosen_bytes bs buf
  unfolding chosen_bytes
  choose_writes z l w = rw (choose_takes bs buf z l) w
