-- Bytes written over the front of a buffer that hold the fields of a picture's evidence are the evidence. Assumes nothing.
use mathlib.Core.Path.{◌≡◌}
use mathlib.Core.List.{List, ◌++◌}
use Prim.Native.Nat.{ℕ, ◌*◌, ◌≤◌}
use native.Mathlib.Omega.{arith}
use lib.ListN.{length, drop}
use Rattle.bits.specs.Bits.{bit_at}
use Rattle.packing.specs.Packing.{Bytes}
use Rattle.packing.specs.Holding.{Holds}
use Rattle.packing.proofs.Fields.{holds_fit}
use Rattle.packing.proofs.Written.{held_packed}
use Rattle.picture.specs.Layout.{edition_of}
use Rattle.picture.specs.Picture.{picture_of}
use Rattle.evidence.specs.Canonical.{evidence_fields, evidence_of}
use Rattle.evidence.specs.Calls.{length_for}
use Rattle.evidence.proofs.Fields.{span_bytes}

-- what is held was read, so it fits: nothing is asked of the picture
pub written : (bs buf out : List ℕ) → Bytes buf → Bytes out → length out ≡ length buf → length_for bs ≤ length buf
    → Holds out 0 (evidence_fields (edition_of bs) (picture_of bs)) → ((i : ℕ) → length_for bs * 8 ≤ i → bit_at out i ≡ bit_at buf i)
    → out ≡ evidence_of bs ++ drop (length_for bs) buf
unfolding evidence_of
written bs buf out hb ho same room held rest =
    let fs = evidence_fields (edition_of bs) (picture_of bs) in
    held_packed buf out fs (length_for bs) (holds_fit out 0 fs held) (omega (arith, span_bytes bs)) room same ho hb held (λ i s l. absurd (omega (arith, span_bytes bs))) rest
