-- A repeated link or service link, anywhere in its list, changes no byte of what is printed. Assumes nothing.
use mathlib.Core.Path.{◌≡◌}
use mathlib.Core.List.{List, ◌++◌, map}
use Prim.Native.Nat.{ℕ}
use Rattle.std.specs.Prelude.{Option}
use Rattle.lists.specs.Lists.{flat}
use Rattle.picture.specs.Picture.{Picture, picture_of}
use Rattle.picture.specs.Faults.{picture_fault}
use Rattle.network.specs.declared.Cost.{Cost}
use Rattle.network.specs.Repeats.{Repeated}
use Rattle.network.proofs.Repeats.{repeated_served_weight}
use Rattle.evidence.specs.Canonical.{stated_of, least, verdict_of, chosen_block, chosen_loss}
use Rattle.evidence.proofs.Repeats.{repeated_weighings}
use Rattle.listing.specs.Listing.{served_line, block_line, choice_line, plan_lines, listing_of, listing}

lines_same : {p q : Picture} → Repeated p q → plan_lines p ≡ plan_lines q
unfolding plan_lines
lines_same r =
    λ i.
    let ws : List Cost = repeated_weighings r i in
    let c : Option Cost = least ws in
    served_line (repeated_served_weight r i) ++ (flat (map (λ w. block_line (stated_of w)) ws) ++ choice_line (verdict_of c) (chosen_block c) (chosen_loss c))

pub repeated_listing : (bs bs' : List ℕ) → picture_fault bs ≡ 0 → picture_fault bs' ≡ 0 → Repeated (picture_of bs) (picture_of bs') → listing bs ≡ listing bs'
unfolding listing listing_of
repeated_listing bs bs' ok ok' r = rw (ok, ok') (lines_same r)
