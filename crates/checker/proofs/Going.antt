-- Going over the parts of evidence, one by one, up to the first fault. Assumes nothing.
use mathlib.Core.Path.{◌≡◌, refl, sym, ap, ◌∙◌, subst, fun_ext}
use mathlib.Core.Bool.{Bool, true, false}
use mathlib.Core.Logic.{◌⊎◌, inl, inr, ◌≢◌, by_cases}
use mathlib.Core.List.{List, []}
use Prim.Native.Nat.{ℕ, zero, suc, ◌+◌, ◌-◌, ◌*◌, ◌/◌, ◌≤◌, ◌<◌, zero-le, suc-le-suc}
use native.Mathlib.Omega.{arith}
use native.Mathlib.Decide.{ℕ_discrete}
use lib.Dec.{T, eqb-suc-zero}
use lib.ListN.{length, get_or, set, replicate, length-set}
use lib.Seq.{get_or-set_same, get_or-set_other}
use Rattle.lists.specs.Lists.{range, any}
use Rattle.lists.proofs.Ranges.{length_range}
use Rattle.lists.proofs.Picks.{range_at}
use Rattle.lists.proofs.Faults.{Clean, scan_begun, scan_miss, scan_hit, scan_ended}
use Rattle.rows.specs.Rows.{marked, linked_in, words_for, Narrow, With, Minus, Meet, slots_max, marks_max, row_words}
use Rattle.rows.specs.declared.Range.{Range}
use Rattle.rows.specs.Ranges.{in_range, without}
use Rattle.rows.proofs.Ranges.{any_in_range}
use Rattle.rows.proofs.Marks.{narrow_for, clear, less_narrow, clear_narrow}
use Rattle.graph.specs.declared.Node.{Node}
use Rattle.graph.specs.Held.{held_in}
use Rattle.graph.specs.Kept.{ForestKept}
use Rattle.graph.proofs.Keeping.{reached_kept, kept_reached}
use Rattle.picture.specs.declared.Header.{Header}
use Rattle.picture.specs.Layout.{blocks_max, edition_of}
use Rattle.picture.specs.Picture.{Picture, picture_of}
use Rattle.picture.specs.Inner.{Limited, Read}
use Rattle.picture.proofs.Facts.{read_edition, read_limited, read_slots_most}
use Rattle.network.specs.Words.{slot_count, endpoint_count, is_held, joins, Named}
use Rattle.network.specs.Tests.{marks, served, weighed, candidates}
use Rattle.network.specs.declared.Tables.{Tables}
use Rattle.network.specs.Rows.{SlotRowsOf, TablesOf}
use Rattle.network.proofs.Named.{accepted_named}
use Rattle.network.proofs.Candidates.{candidates_below}
use Rattle.weigh.specs.declared.Lost.{Lost}
use Rattle.weigh.specs.Sums.{Meets, LostBetween}
use Rattle.network.proofs.Blocks.{read_slots, read_block_size, read_endpoints, read_block}
use Rattle.weigh.proofs.Serving.{serving, served_met, loss_met, cuts_met, mark_met}
use Rattle.evidence.specs.Layout.{forest_at, evidence_bytes}
use Rattle.evidence.specs.Contents.{section_in, forest_in}
use Rattle.evidence.specs.Checks.{node_right, form_right}
use Rattle.evidence.specs.Rules.{Form}
use Rattle.evidence.proofs.Fields.{candidates_few}
use Rattle.evidence.proofs.Forests.{test_in, in_test}
use Rattle.evidence.proofs.Judging.{right_form}
use Rattle.evidence.proofs.Places.{forest_place_low}
use Rattle.evidence.proofs.Lengths.{forest_starts, forest_room}
use Rattle.checker.specs.Forests.{Room, node_from, evicted_in, stated_test, part_fault, parts_fault, CutsOf}
use Rattle.checker.proofs.Nodes.{forest_length, node_read}
use Rattle.checker.proofs.Following.{Followed, followed_in, followed_out, Closed, node_broken, evicted_broken, link_broken, inner_in, inner_within, forest_kept}
use Rattle.checker.proofs.Parts.{block_at, held_at, stated_at, part_broken, part_wrong, part_right, formed_block, held_found, stated_found}

-- the parts of evidence
abbrev pub parts : List ℕ → List ℕ
parts bs = range 0 (suc (length (candidates (picture_of bs))))

pub part_of : (bs : List ℕ) (k : ℕ) → k ≤ length (candidates (picture_of bs)) → get_or (parts bs) k 0 ≡ k
part_of bs k l = range_at (suc (length (candidates (picture_of bs)))) k (omega arith)

-- part 0 is weighed against nothing, and each section against the first forest
pub data Sides (row inner : List ℕ) : ℕ → List ℕ → List ℕ → Type 0 where
  whole : Sides row inner 0 inner (replicate row_words 0)
  less : {i : ℕ} → Sides row inner (suc i) row inner

pub sides_whole : {row inner before after : List ℕ} (k : ℕ) → k ≡ 0 → before ≡ inner → after ≡ replicate row_words 0 → Sides row inner k before after
sides_whole k z e f = rw (z, e, f) whole

pub sides_less : {row inner before after : List ℕ} (k : ℕ) → k ≢ 0 → before ≡ row → after ≡ inner → Sides row inner k before after
sides_less zero n e f = absurd (n refl)
sides_less (suc i) n e f = rw (e, f) less

-- both sides are as narrow as the rows that they are of
sides_narrow : {row inner before after : List ℕ} {words k : ℕ} → Sides row inner k before after → Narrow words row → Narrow words inner → Narrow words before × Narrow words after
sides_narrow whole r i = (i, clear_narrow row_words i.most)
sides_narrow less r i = (r, i)

-- ---- what is known

-- what the code has at hand: a picture and evidence, the picture's header, the words that its rows take, and its tables
pub record Given : Type 0 where
  pub bs : List ℕ
  pub ev : List ℕ
  pub held : List ℕ
  pub h : Header
  pub count : ℕ
  pub words : ℕ
  pub tables : Tables

abbrev pub given : List ℕ → List ℕ → List ℕ → Header → ℕ → ℕ → Tables → Given
given s e held h c k t = record { bs = s; ev = e; held = held; h = h; count = c; words = k; tables = t }

abbrev pic : Given → Picture
pic x = picture_of x.bs

abbrev fault_of : Given → ℕ → ℕ
fault_of x = part_fault x.bs x.ev

-- a row serves what is served where this is held
abbrev Serves : Given → (ℕ → Bool) → List ℕ → Type 0
Serves x held row = Meets x.tables.services row (served (pic x) (marks (pic x) held))

-- where the forest of part k starts, and the forest from bit q on
abbrev start_of : Given → ℕ → ℕ
start_of x = forest_at x.h.edition x.h.slots

abbrev pub forest : Given → ℕ → List Node
forest x = forest_in x.h.edition x.h.slots x.ev

-- the block of the section that is part k
abbrev section_block : Given → ℕ → ℕ
section_block x k = (section_in x.h.edition x.h.slots x.ev (k - 1)).block

-- the forest of part k keeps its rules
abbrev Kept : Given → ℕ → Type 0
Kept x k = ForestKept (joins (pic x).links) (held_at (pic x) k) x.h.slots (forest x (start_of x k))

-- the rows are the picture's, and the evidence has its form
pub record Ready (x : Given) : Type 0 where
  pub read : Read x.bs x.h
  pub few_slots : x.h.slots ≤ slots_max
  pub few_parts : x.count ≤ blocks_max
  pub few_words : x.words ≡ words_for x.h.slots
  pub near : List ℕ
  pub slots : SlotRowsOf (pic x) x.held near
  pub made : TablesOf (pic x) x.tables
  pub form : Form x.h.edition (pic x) x.ev
  pub counted : x.count ≡ length (candidates (pic x))
  pub room : (k : ℕ) → 1 ≤ k → k ≤ x.count → section_block x k * x.h.block_size + x.h.block_size ≤ slots_max

-- the parts before k have no fault, and after the first the row marks what is reached with nothing evicted; it is in the words that are looked at
pub record Gone (x : Given) (row : List ℕ) (k : ℕ) : Type 0 where
  pub ready : Ready x
  pub clean : Clean (fault_of x) 0 (parts x.bs) k
  pub reached : 1 ≤ k → Serves x (is_held (pic x)) row
  pub narrow : Narrow x.words row

-- for each section, at its place, a number: those before part k have how many endpoints their blocks cut
pub record Counted (x : Given) (cuts : List ℕ) (k : ℕ) : Type 0 where
  pub many : length cuts ≡ x.count
  pub same : (i : ℕ) → i < k - 1 → get_or cuts i 0 ≡ (weighed (pic x) (block_at (pic x) i)).cuts

-- part k is at hand: its forest starts at byte `at`, and these slots are evicted in it
pub record PartAt (x : Given) (row : List ℕ) (k at : ℕ) (evicted : Range) : Type 0 where
  pub gone : Gone x row k
  pub most : k ≤ x.count
  pub starts : at * 8 ≡ start_of x k
  pub room : Room x.h x.ev at
  pub slots : evicted ≡ evicted_in x.h.block_size (section_block x k) k
  pub low : evicted.last < marks_max

-- the slots below v of the forest at byte `at` are followed
abbrev pub Seen : Given → ℕ → List ℕ → ℕ → Type 0
Seen x at = Followed x.tables.links (held_in x.held) (forest x (at * 8))

-- all slots of the forest are
pub record AllSeen (x : Given) (at : ℕ) (slots : List ℕ) : Type 0 where
  pub v : ℕ
  pub followed : Seen x at slots v
  pub ended : x.h.slots < v

-- the slots of its forest were followed: these are in it, and these are held and not in it
pub record Inside (x : Given) (row : List ℕ) (k : ℕ) (evicted : Range) (inner outer : List ℕ) : Type 0 where
  pub at : ℕ
  pub slots : List ℕ
  pub part : PartAt x row k at evicted
  pub with : With slots 0 inner
  pub minus : Minus x.held inner outer
  pub seen : AllSeen x at slots
  pub apart : (u : ℕ) → T (in_range evicted u) → ¬ T (marked slots u)

-- no link of a location below a leads from the forest to what is outside
abbrev pub Shut : Given → Range → List ℕ → List ℕ → ℕ → Type 0
Shut x evicted inner outer = Closed x.tables.links inner (without evicted (marked outer))

-- none of any location does
pub record AllShut (x : Given) (evicted : Range) (inner outer : List ℕ) : Type 0 where
  pub a : ℕ
  pub closed : Shut x evicted inner outer a
  pub ended : x.h.slots < a

-- the slots that are evicted have a place in rows
evicted_low : (size b k : ℕ) → (1 ≤ k → b * size + size ≤ slots_max) → (evicted_in size b k).last < marks_max
unfolding evicted_in
evicted_low size b zero h = omega arith
evicted_low size b (suc i) h = rw (eqb-suc-zero i) (omega (arith, h (suc-le-suc zero-le)))

-- ---- the tables

module _ {bs ev held : List ℕ} {count words : ℕ} {tables : Tables} {h : Header} (r : Read bs h) where
  pub tables_made : let p = picture_of bs in (near : List ℕ) × SlotRowsOf p held near → form_right (edition_of bs) p ev ≡ true → count ≡ length (candidates p)
      → words ≡ words_for h.slots → TablesOf p tables → Ready (given bs ev held h count words tables)
  tables_made s f c w t =
      let p = picture_of bs in
      let form = right_form h.edition p ev (rw (read_edition bs h r, f) tt) in
      record {
        read = r;
        few_slots = read_slots_most bs h r;
        few_parts = omega (arith, candidates_few bs r.accepted);
        few_words = w;
        near = s.0;
        slots = s.1;
        made = t;
        form = form;
        counted = c;
        room = λ k a b.
            let i : k - 1 < length (candidates p) = omega arith in
            rw (formed_block bs ev r form (k - 1) i) (read_block bs h r (block_at p (k - 1)) (candidates_below p (k - 1) i));
      }

-- what they say by the header that was read
module _ {x : Given} (t : Ready x) where
  pub table_limited : Limited x.h
  table_limited = read_limited x.bs x.h t.read

  abbrev table_slots : slot_count (pic x) ≡ x.h.slots
  table_slots = read_slots x.bs x.h t.read

  abbrev table_named : Named (pic x)
  table_named = accepted_named x.bs t.read.accepted

  abbrev table_endpoints : x.h.endpoints ≡ endpoint_count (pic x)
  table_endpoints = read_endpoints x.bs x.h t.read

  -- a row that marks locations of the picture alone is in the words that are looked at, and the row of what is held is one
  table_narrow : (row : List ℕ) → ((v : ℕ) → T (marked row v) → v ≤ x.h.slots) → Narrow x.words row
  table_narrow row within = rw t.few_words (narrow_for x.h.slots row t.few_slots within)

  pub held_narrow : Narrow x.words x.held
  held_narrow = table_narrow x.held (λ v m. omega (arith, t.slots.held.only.within v m, table_slots))

  -- where the forest of a part starts: at a whole byte, from which the evidence has room for it
  table_starts : (k : ℕ) → start_of x k / 8 * 8 ≡ start_of x k
  table_starts = forest_starts table_limited.known x.h.slots

  table_room : {k : ℕ} → k ≤ x.count → Room x.h x.ev (start_of x k / 8)
  table_room {k} l =
      let e = x.h.edition in
      let c = length (candidates (pic x)) in
      let within : k ≤ c = omega (arith, t.counted) in
      let long : length x.ev ≡ evidence_bytes e x.h.slots c = t.form.size ∙ ap (λ (n : ℕ). evidence_bytes e n c) table_slots in
      record {
        small = omega (arith, forest_place_low x.h table_limited k (omega (arith, t.few_parts)));
        within = omega (arith, long, forest_room table_limited.known x.h.slots within);
      }

-- ---- the numbers of endpoints cut

pub counted_begun : {x : Given} {cuts : List ℕ} → length cuts ≡ x.count → Counted x cuts 0
counted_begun m = record { many = m; same = λ i h. absurd (omega arith) }

pub counted_ended : {x : Given} {cuts : List ℕ} {k : ℕ} → Ready x → Counted x cuts k → x.count < k → CutsOf (pic x) cuts
counted_ended t c l = record { many = c.many ∙ t.counted; same = λ i h. c.same i (omega (arith, c.many)) }

-- ---- going over the parts

-- what the sums over the marks of part k come to
record Found (x : Given) (k : ℕ) (lost : Lost) : Type 0 where
  pub weight : lost.weight ≡ (stated_at (pic x) k).loss
  pub mark : 1 ≤ k → lost.mark ≡ (stated_at (pic x) k).mark
  pub cuts : (i : ℕ) → k ≡ suc i → lost.count ≡ (weighed (pic x) (block_at (pic x) i)).cuts

module _ {x : Given} where
  pub gone_begun : Ready x → Gone x (replicate row_words 0) 0
  gone_begun t =
      record {
        ready = t;
        clean = scan_begun (fault_of x) 0 (parts x.bs);
        reached = λ l. absurd (omega arith);
        narrow = clear_narrow row_words (held_narrow t).most;
      }

  -- every part was gone over
  pub gone_ended : {row : List ℕ} {k : ℕ} → Gone x row k → x.count < k → 0 ≡ parts_fault x.bs x.ev
  unfolding parts_fault
  gone_ended {k = k} g l =
      scan_ended (fault_of x) 0 (parts x.bs) k g.clean (omega (arith, length_range 0 (suc (length (candidates (pic x)))), g.ready.counted))

  -- a part is at hand
  pub part_begun : {row : List ℕ} {k at : ℕ} {evicted : Range} → Gone x row k → k ≤ x.count → at ≡ start_of x k / 8
      → evicted ≡ evicted_in x.h.block_size (section_block x k) k → PartAt x row k at evicted
  part_begun {k = k} {evicted = evicted} g l e h =
      let t = g.ready in
      let last : evicted.last < marks_max = rw h (evicted_low x.h.block_size (section_block x k) k (λ s. t.room k s l)) in
      record { gone = g; most = l; starts = rw e (table_starts t k); room = rw e (table_room t l); slots = h; low = last }

  module _ (t : Ready x) {row inner : List ℕ} where
    sums_found : {k : ℕ} {before after : List ℕ} {lost : Lost} → Sides row inner k before after → Serves x (held_at (pic x) k) inner
        → (1 ≤ k → Serves x (is_held (pic x)) row) → LostBetween x.tables.services x.tables.weights x.tables.protected x.h.endpoints before after lost → Found x k lost
    unfolding held_at stated_at
    sums_found whole now r s =
        record { weight = served_met t.made.ends (table_endpoints t) now (clear row_words) s; mark = λ l. absurd (omega arith); cuts = λ i e. absurd (omega arith) }
    sums_found (less {i = j}) now r s =
        let all = r (suc-le-suc zero-le) in
        let b = block_at (pic x) j in
        record {
          weight = loss_met t.made.ends (table_endpoints t) all b now s;
          mark = λ _. mark_met t.made.ends (table_endpoints t) all b now s;
          cuts = λ i e.
              let same : j ≡ i = omega arith in
              cuts_met t.made.ends (table_endpoints t) all b now s ∙ ap (λ (u : ℕ). (weighed (pic x) (block_at (pic x) u)).cuts) same;
        }

    still : {k : ℕ} {before after : List ℕ} → Sides row inner k before after → Serves x (held_at (pic x) k) inner → (1 ≤ k → Serves x (is_held (pic x)) row)
        → Serves x (is_held (pic x)) before
    unfolding held_at
    still whole now r = now
    still less now r = r (suc-le-suc zero-le)

  module _ {row : List ℕ} {k at : ℕ} {evicted : Range} (a : PartAt x row k at evicted) where
    abbrev t : Ready x
    t = a.gone.ready

    abbrev es : List Node
    es = forest x (at * 8)

    most : k ≤ length (candidates (pic x))
    most = omega (arith, a.most, t.counted)

    -- the part at hand has a fault
    stopped : {y : ℕ} → y ≢ 0 → y ≡ fault_of x k → y ≡ parts_fault x.bs x.ev
    unfolding parts_fault
    stopped z e =
        scan_hit (fault_of x) 0 (parts x.bs) k a.gone.clean (omega (arith, length_range 0 (suc (length (candidates (pic x)))), most))
        (e ∙ ap (fault_of x) (sym (part_of x.bs k most))) z

    -- the rows say what the picture says
    same : ForestKept (linked_in x.tables.links) (without evicted (held_in x.held)) x.h.slots es ≡ Kept x k
    same =
        let links-same : linked_in x.tables.links ≡ joins (pic x).links = fun_ext (λ u. fun_ext (λ v. t.made.links.same u v)) in
        let holds = held_found x.bs x.ev t.read t.form t.slots k most in
        let held_same : without evicted (held_in x.held) ≡ held_at (pic x) k = rw (a.slots, ← read_block_size x.bs x.h t.read) (fun_ext holds) in
        rw (links-same, held_same, a.starts)

    broken : ¬ ForestKept (linked_in x.tables.links) (without evicted (held_in x.held)) x.h.slots es → 14 ≡ parts_fault x.bs x.ev
    broken b = stopped (λ z. absurd (omega arith)) (part_broken x.bs x.ev t.read k most (λ y. b (rw same y)))

    -- a slot breaks its rule
    pub part_node : {v : ℕ} → 1 ≤ v → v ≤ x.h.slots → node_right (linked_in x.tables.links) (held_in x.held) es v ≡ false → 14 ≡ parts_fault x.bs x.ev
    part_node l m e = broken (node_broken (linked_in x.tables.links) (held_in x.held) evicted es l m e)

    -- it keeps its rule, and is in the forest or is not
    pub part_seen : {v : ℕ} {slots slots' : List ℕ} {y : Node} → 1 ≤ v → v ≤ x.h.slots → Seen x at slots v → y ≡ node_from x.h.edition x.ev (at * 8) v
        → node_right (linked_in x.tables.links) (held_in x.held) es v ≡ true → ((y.depth ≢ 0) × With slots v slots') ⊎ ((y.depth ≡ 0) × (slots' ≡ slots)) → Seen x at slots' (v + 1)
    part_seen l m f e r (inl i) = followed_in l f r (rw (node_read _ _ _ _ _ l m, ← e) i.0) i.1
    part_seen l m f e r (inr o) = rw o.1 (followed_out l f r (rw (node_read _ _ _ _ _ l m, ← e) o.0))

    -- an evicted slot is in the forest
    pub part_evicted : {slots : List ℕ} → AllSeen x at slots → T (any (marked slots) (range (evicted.after + 1) (evicted.last - evicted.after))) → 14 ≡ parts_fault x.bs x.ev
    part_evicted s t =
        let u = any_in_range evicted _ t in
        broken (evicted_broken x.held evicted (forest_length x.h.edition x.h.slots x.ev (at * 8)) s.followed s.ended u.0 u.1 u.2)

  module _ {row : List ℕ} {k : ℕ} {evicted : Range} {inner outer : List ℕ} (i : Inside x row k evicted inner outer) where
    abbrev g : Gone x row k
    g = i.part.gone

    len : length (forest x (i.at * 8)) ≡ x.h.slots
    len = forest_length x.h.edition x.h.slots x.ev (i.at * 8)

    -- what is in the forest and what is held and not in it are in the words that are looked at
    inner_narrow : Narrow x.words inner
    inner_narrow = table_narrow g.ready inner (inner_within x.held evicted len i.seen.followed i.seen.ended i.with i.minus)

    pub outer_narrow : Narrow x.words outer
    outer_narrow = less_narrow (held_narrow g.ready) i.minus

    -- so the two sides of the sums are
    pub part_narrow : {before after : List ℕ} → Sides row inner k before after → Narrow x.words before × Narrow x.words after
    part_narrow y = sides_narrow y g.narrow inner_narrow

    -- a link leads out of the forest
    pub part_link : (u : ℕ) → T (marked inner u) → Meet (marked (get_or x.tables.links u [])) (without evicted (marked outer)) true → 14 ≡ parts_fault x.bs x.ev
    part_link u m y = broken i.part (link_broken x.held evicted len i.seen.followed i.seen.ended i.with i.minus u m y)

    module _ (c : AllShut x evicted inner outer) {before after : List ℕ} (y : Sides row inner k before after) {lost : Lost}
        (s : LostBetween x.tables.services x.tables.weights x.tables.protected x.h.endpoints before after lost) where
      kept : Kept x k
      kept =
          let low : (u v : ℕ) → T (linked_in x.tables.links u v) → u ≤ x.h.slots =
          λ u v j. omega (arith, table_slots g.ready, ((table_named g.ready).links u v (subst T (g.ready.made.links.same u v) j)).0) in
          rw (same i.part) at (forest_kept x.held evicted len i.seen.followed i.seen.ended i.with i.minus i.apart low c.closed c.ended)

      now : Serves x (held_at (pic x) k) inner
      now =
          let here = inner_in x.held evicted len i.seen.followed i.seen.ended i.with i.minus in
          let fit = rw (← i.part.starts) at kept in
          serving (pic x) (held_at (pic x) k) (table_named g.ready) g.ready.made.services (λ v z. kept_reached fit len v (test_in _ v (subst T (here v) z)))
          (λ v z. subst T (sym (here v)) (in_test _ v (reached_kept fit z)))

      sums : Found x k lost
      sums = sums_found g.ready y now g.reached s

      stated : stated_test x.h.edition x.h.slots x.ev k lost.weight lost.mark ≡ stated_test x.h.edition x.h.slots x.ev k (stated_at (pic x) k).loss (stated_at (pic x) k).mark
      stated = stated_found x.bs x.ev g.ready.read k sums.weight sums.mark

      -- the number of endpoints that a section's block cuts is kept in its place; the first forest has none
      pub part_counted : {cuts cuts' : List ℕ} → Counted x cuts k → ((k ≡ 0) × (cuts' ≡ cuts)) ⊎ ((k ≢ 0) × (cuts' ≡ set cuts (k - 1) lost.count)) → Counted x cuts' (k + 1)
      part_counted {cuts} c (inl e) = rw e.1 (record { many = c.many; same = λ u h. absurd (omega (arith, e.0)) })
      part_counted {cuts} c (inr e) =
          let some = e.0 in
          let room : k - 1 < length cuts = omega (arith, c.many, i.part.most, g.ready.few_parts) in
          rw e.1
          (record {
            many = length-set cuts (k - 1) lost.count ∙ c.many;
            same = λ u h.
                by_cases (ℕ_discrete u (k - 1))
                (λ q. rw q (get_or-set_same cuts (k - 1) lost.count 0 room ∙ sums.cuts (k - 1) (omega arith)))
                (λ d. get_or-set_other cuts (k - 1) u lost.count 0 d ∙ c.same u (omega arith));
          })

      -- what is stated is wrong
      pub part_stated : stated_test x.h.edition x.h.slots x.ev k lost.weight lost.mark ≡ false → 15 ≡ parts_fault x.bs x.ev
      part_stated e = stopped i.part (λ z. absurd (omega arith)) (part_wrong x.bs x.ev g.ready.read k (most i.part) kept (sym stated ∙ e))

      -- the part has no fault
      pub part_gone : stated_test x.h.edition x.h.slots x.ev k lost.weight lost.mark ≡ true → Gone x before (k + 1)
      part_gone e =
          let none = part_right x.bs x.ev g.ready.read k (most i.part) kept (sym stated ∙ e) in
          record {
            ready = g.ready;
            clean = scan_miss (fault_of x) 0 (parts x.bs) k g.clean (ap (fault_of x) (part_of x.bs k (most i.part)) ∙ none);
            reached = λ _. still g.ready y now g.reached;
            narrow = (part_narrow y).0;
          }
