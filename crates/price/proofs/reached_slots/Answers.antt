-- `reached_slots` marks the held slots with a link from the origin. Assumes nothing.
use mathlib.Core.Path.{◌≡◌, refl, sym, ap, ◌∙◌}
use native.Mathlib.Omega.{arith}
use Prim.Native.Nat.{◌<◌}
use lib.ListN.{length, get_or}
use Rattle.picture.specs.declared.Link.{Link}
use Rattle.rows.specs.Rows.{marks_max}
use Rattle.picture.specs.Picture.{picture_of}
use Rattle.picture.specs.Rules.{no_link}
use Rattle.picture.proofs.Facts.{read_limited, read_picture, read_links, read_links_length, read_slots_most}
use Rattle.picture.proofs.Finding.{scanning_begun, scanning_hit, scanning_miss, scanning_ended}
use Rattle.price.specs.Faults.{flat_fault}
use Rattle.price.proofs.Judged.{right_start, start_right, start_told}
use Rattle.price.proofs.Reaching.{reaching_begun, reaching_hit, reaching_miss, reaching_ended}
use Rattle.price.proofs.reached_slots.Goals as goal
use Rattle.price.proofs.reached_slots.Goals.{After-nth_link-l, then-has, else-has}

-- the link at hand is the picture's
link : (c : After-nth_link-l) → c.nth_link-l.result ≡ get_or (picture_of c.args.p.now).links c.loop-i.i no_link
link c = rw (c.bytes-s.ensures, read_picture _ _ c.header-h.ensures) at c.nth_link-l.ensures

-- it leads to a location that is there
location : (c : After-nth_link-l) → c.nth_link-l.result.to < marks_max
location c =
    let r = c.header-h.ensures in
    let below : c.loop-i.i < length (picture_of c.args.p.now).links = omega (arith, read_links_length _ _ r) in
    rw (link c) (omega (arith, read_slots_most _ _ r, (read_links _ _ r).to c.loop-i.i below))

pub loop-i-init : goal.loop-i-init
loop-i-init c = record { scanned = scanning_begun (read_links_length _ _ c.header-h.ensures); reaching = reaching_begun _ _ }

pub nth_link-l-requires : goal.nth_link-l-requires
nth_link-l-requires c = (read_limited _ _ c.header-h.ensures, refl, omega arith)

pub returns-then-l-ne0 : goal.returns-then-l-ne0
unfolding flat_fault
returns-then-l-ne0 c =
    scanning_hit c.loop-i.invariant.scanned (omega arith) (link (goal.at.returns-then-l-ne0 c).After-nth_link-l) (sym (start_told _ (λ z. c.if-l-ne0.true (right_start _ z)))) (λ z. absurd (omega arith))

pub has-requires : goal.has-requires
has-requires c = location (goal.at.has-requires c).After-nth_link-l

pub add-requires : goal.add-requires
add-requires c = location (goal.at.add-requires c).After-nth_link-l

pub loop-i-preserved : goal.loop-i-preserved
loop-i-preserved c =
    let l = link (goal.at.loop-i-preserved c).After-nth_link-l in
    let i = c.loop-i.invariant in
    let below : c.loop-i.i < length (picture_of c.args.p.now).links = omega (arith, read_links_length _ _ c.header-h.ensures) in
    let start = ap (λ (x : Link). x.from) (sym l) ∙ c.if-l-ne0.false in
    record {
      scanned = scanning_miss i.scanned (omega arith) l (sym (start_right _ c.if-l-ne0.false)) refl;
      reaching =
          elim c.if-has.branch [
            | then-has w ↦
                rw w.reached-is
                (reaching_hit _ _ _ _ i.reaching below start (rw l at (sym c.has.ensures ∙ w.if-has.true)) (rw l at w.add.ensures))
            | else-has w ↦ rw w.reached-is (reaching_miss _ _ _ _ i.reaching below start (rw l at (sym c.has.ensures ∙ w.if-has.false)))
          ];
    }

pub returns : goal.returns
unfolding flat_fault
returns c =
    let i = c.loop-i.invariant in
    (scanning_ended i.scanned (omega arith), reaching_ended c.slot_rows.ensures i.reaching (omega (arith, read_links_length _ _ c.header-h.ensures)))
