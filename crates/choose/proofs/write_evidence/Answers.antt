-- `write_evidence` writes the first forest, the sections and then the head. Assumes nothing.
use borrow.Author.Rules.{rules}
use mathlib.Core.Path.{◌≡◌, refl, sym}
use Prim.Native.Nat.{◌/◌, ◌≤◌}
use native.Mathlib.Omega.{arith}
use lib.ListN.{length}
use Rattle.rows.specs.Rows.{marked, row_words}
use Rattle.packing.proofs.Putting.{put_same}
use Rattle.graph.specs.Steps.{Walked}
use Rattle.picture.specs.Picture.{picture_of}
use Rattle.picture.proofs.Facts.{read_known, read_limited}
use Rattle.network.specs.Words.{is_held, joins}
use Rattle.network.specs.Tests.{served_weight}
use Rattle.rows.proofs.Marks.{clear, clear_narrow}
use Rattle.network.proofs.Named.{accepted_named}
use Rattle.network.proofs.Blocks.{read_endpoints}
use Rattle.weigh.proofs.Serving.{now_walked, slots_only_lem, walk_narrow, walk_meets, served_met}
use Rattle.evidence.specs.Calls.{length_for}
use Rattle.evidence.proofs.Places.{head_whole}
use Rattle.evidence.proofs.Lengths.{sections_start, sections_end}
use Rattle.choose.specs.Sections.{WeighRows, Sectioned}
use Rattle.choose.proofs.Nodes.{walked_nodes}
use Rattle.choose.proofs.Sections.{forest_ready}
use Rattle.choose.proofs.Evidence.{length_for_lem, evidence_room, head_fits, evidence_written}
use Rattle.choose.proofs.write_evidence.Goals as goal
use Rattle.choose.proofs.write_evidence.Goals.{Start, After-lost-all, After-put_sections-c, After-section_at-at, After-walk-forest}

fits : (c : Start) → length_for c.args.p.now ≤ length c.args.buf.now
fits c = let p = c.requires in omega (arith, p.planned.long, p.room)

-- the first walk goes through the picture
walked : (c : After-walk-forest) → let p = picture_of c.args.p.now in let f = c.walk-forest.result in
    Walked (joins p.links) (is_held p) (marked f.reached) f.parent f.depth
walked c = now_walked c.requires.planned.slots.held c.fill.ensures.links c.walk-forest.ensures

-- the rows are the picture's, wherever they are
rows : (c : After-walk-forest) {i j k : _} → let plan = c.args.plan in
    WeighRows c.args.p.now c.header-h.result
    (record {
      tables = record { ref_ptr = i; now = c.fill.new.self };
      slots = record { ref_ptr = j; now = plan.slots };
      reached = record { ref_ptr = k; now = c.walk-forest.result.reached };
    })
rows c =
    let slots = c.requires.planned.slots in
    record {
      read = c.header-h.ensures;
      tables = c.fill.ensures;
      slots = slots;
      parents = _;
      depths = _;
      now = walked c;
      narrow = walk_narrow c.header-h.ensures slots.held _ refl c.walk-forest.ensures;
    }

-- all that is served
served : (c : After-lost-all) → c.lost-all.result.weight ≡ served_weight (picture_of c.args.p.now)
served c =
    let r = c.header-h.ensures in
    let t = c.fill.ensures in
    served_met t.ends (read_endpoints _ _ r)
    (walk_meets (accepted_named _ r.accepted) t.services (walked (goal.at.After-lost-all c).After-walk-forest))
    (clear row_words) c.lost-all.ensures

-- they start behind the first forest
sections_start_lem : (c : After-section_at-at) → let h = c.header-h.result in c.section_at-at.result / 8 ≡ sections_start h.edition h.slots
sections_start_lem c =
    omega (arith, c.section_at-at.ensures, sections_end (read_known _ _ c.header-h.ensures) c.header-h.result.slots 0)

-- the sections behind the first forest
sectioned : (c : After-put_sections-c) → let h = c.header-h.result in let s = c.put_sections-c in
    Sectioned h.edition (picture_of c.args.p.now) (sections_start h.edition h.slots) c.put_forest.new.buf s.new.buf s.result
sectioned c =
    rw (sections_start_lem (goal.at.After-put_sections-c c).After-section_at-at) at
    (c.put_sections-c.ensures _ (rows (goal.at.After-put_sections-c c).After-walk-forest))

pub walk-forest-requires : goal.walk-forest-requires
walk-forest-requires c = slots_only_lem c.header-h.ensures c.requires.planned.slots.held

pub lost-all-requires : goal.lost-all-requires
lost-all-requires c =
    let narrow = walk_narrow c.header-h.ensures c.requires.planned.slots.held _ refl c.walk-forest.ensures in
    record { rows = (_, rows (goal.at.lost-all-requires c).After-walk-forest); narrow = clear_narrow row_words narrow.most }

pub put_forest-requires : goal.put_forest-requires
put_forest-requires c =
    let r = c.header-h.ensures in
    forest_ready r _ (omega (arith, fits (goal.at.put_forest-requires c).Start, length_for_lem r)) (omega arith)
    (walked_nodes c.walk-forest.result r (walked (goal.at.put_forest-requires c).After-walk-forest))

pub section_at-at-requires : goal.section_at-at-requires
section_at-at-requires c = (read_limited _ _ c.header-h.ensures, omega arith)

pub put_sections-c-requires : goal.put_sections-c-requires
put_sections-c-requires c =
    record {
      bytes = _;
      rows = rows (goal.at.put_sections-c-requires c).After-walk-forest;
      room =
          rw (sections_start_lem (goal.at.put_sections-c-requires c).After-section_at-at)
          (evidence_room c.header-h.ensures (omega (arith, fits (goal.at.put_sections-c-requires c).Start, c.put_forest.ensures.long)));
    }

pub put_head-requires : goal.put_head-requires
put_head-requires c =
    head_fits c.header-h.ensures (sectioned (goal.at.put_head-requires c).After-put_sections-c).choice c.requires.planned.counted
    (served (goal.at.put_head-requires c).After-lost-all)
    (omega (arith, fits (goal.at.put_head-requires c).Start, c.put_forest.ensures.long, (sectioned (goal.at.put_head-requires c).After-put_sections-c).put.long))

pub returns : goal.returns
returns c =
    let first = put_same c.put_forest.ensures (sym head_whole) refl in
    evidence_written c.header-h.ensures c.walk-forest.result (walked (goal.at.returns c).After-walk-forest) first (sectioned (goal.at.returns c).After-put_sections-c)
    c.put_head.ensures c.requires.planned.counted (served (goal.at.returns c).After-lost-all) (fits (goal.at.returns c).Start)
    (λ j. search rules) (λ j. search rules)
