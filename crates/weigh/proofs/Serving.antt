-- What the rows of a picture give: the walk over them reaches what chains reach, their common marks are service, and the sums over them
-- are the weights of the specification. Assumes nothing.
use mathlib.Core.Path.{◌≡◌, refl, sym, ap, ap₂, ◌∙◌, subst, subst₂, fun_ext}
use mathlib.Core.Bool.{Bool, false, not, ◌&&◌, and-true}
use mathlib.Core.List.{List, [], map}
use Prim.Native.Nat.{ℕ, suc, ◌≤◌}
use lib.Dec.{T, T_not}
use lib.ListN.{get_or}
use Rattle.lists.specs.Lists.{range, on, sum, any}
use Rattle.rows.specs.declared.Range.{Range}
use Rattle.rows.specs.Rows.{marked, linked_in, words_for, Narrow, Meet, locations_max}
use Rattle.rows.proofs.Marks.{narrow_for}
use Rattle.rows.specs.Ranges.{no_range, in_range, without}
use Rattle.rows.proofs.Ranges.{none_without}
use Rattle.graph.specs.Held.{held_in, SlotsOnly}
use Rattle.graph.specs.Chains.{Reached}
use Rattle.graph.specs.Steps.{Walked}
use Rattle.graph.proofs.Walks.{walked_within}
use Rattle.picture.specs.Layout.{endpoints_max}
use Rattle.picture.specs.declared.Header.{Header}
use Rattle.picture.specs.Picture.{Picture, picture_of, endpoint_of}
use Rattle.picture.specs.Inner.{Read}
use Rattle.picture.proofs.Facts.{read_limited}
use Rattle.network.specs.declared.Tables.{Tables}
use Rattle.network.specs.Words.{endpoint_count, in_block, is_held, without_block, held_without, joins, weight_of, Named}
use Rattle.network.specs.Tests.{marks, served, cut, cut_protected, sum_where, served_weight, weighed}
use Rattle.network.specs.Rows.{RowsOf, HeldRow, EndpointsOf, TablesOf, block_range}
use Rattle.network.proofs.Service.{marked_served, served_marked}
use Rattle.network.proofs.Weights.{weight_small}
use Rattle.network.proofs.Blocks.{read_slots}
use Rattle.weigh.specs.Sums.{Small, Meets, LostBetween, sum_between, mark_between}
use Rattle.weigh.specs.declared.Lost.{Lost}

-- ---- the walk

-- a walk by rows is a walk by what they say
walked_over : {linked : ℕ → ℕ → Bool} {held kept reaches : ℕ → Bool} {table : List (List ℕ)} {parent depth : List ℕ}
    → RowsOf locations_max linked table → ((v : ℕ) → kept v ≡ held v) → Walked (linked_in table) kept reaches parent depth → Walked linked held reaches parent depth
walked_over {reaches = reaches} {parent = parent} {depth = depth} t h w =
    subst₂ (λ (l : ℕ → ℕ → Bool) (k : ℕ → Bool). Walked l k reaches parent depth) (fun_ext (λ a. fun_ext (λ b. t.same a b))) (fun_ext h) w

module _ {p : Picture} {held : ℕ → Bool} {slots : List ℕ} (s : HeldRow p held slots) where
  -- a row of slots holds, outside no range, what it holds, and outside a block what is left without it
  pub now_held : (v : ℕ) → without no_range (held_in slots) v ≡ held v
  now_held v = none_without (held_in slots) v ∙ s.same v

  pub left_held : (b v : ℕ) → without (block_range p.block_size b) (held_in slots) v ≡ without_block p held b v
  unfolding without in_range without_block in_block
  left_held b v = rw (s.same v)

  -- so are walks through these slots
  module _ {table : List (List ℕ)} {reaches : ℕ → Bool} {parent depth : List ℕ} (t : RowsOf locations_max (joins p.links) table) where
    pub now_walked : Walked (linked_in table) (without no_range (held_in slots)) reaches parent depth → Walked (joins p.links) held reaches parent depth
    now_walked = walked_over t now_held

    pub left_walked : {size : ℕ} (b : ℕ) → p.block_size ≡ size → Walked (linked_in table) (without (block_range size b) (held_in slots)) reaches parent depth
        → Walked (joins p.links) (without_block p held b) reaches parent depth
    left_walked b e w = walked_over t (left_held b) (rw (← e) at w)

module _ {bs : List ℕ} {h : Header} (read : Read bs h) {held : ℕ → Bool} {slots : List ℕ} (s : HeldRow (picture_of bs) held slots) where
  -- a row of slots marks slots of the header
  pub slots_only_lem : SlotsOnly h.slots slots
  slots_only_lem = rw (← read_slots bs h read) s.only

  -- and so does a walk, so that the words of these are all that need be looked at
  pub walk_narrow : {words : ℕ} {linked : ℕ → ℕ → Bool} {row parent depth : List ℕ} (r : Range) → words ≡ words_for h.slots
      → Walked linked (without r (held_in slots)) (marked row) parent depth → Narrow words row
  walk_narrow r e w = rw e (narrow_for _ _ slots_only_lem.most (walked_within r slots_only_lem w))

-- ---- service

-- an endpoint is served exactly where its row has a mark in common with the row of what is reached
pub serving : (p : Picture) (held : ℕ → Bool) {table : List (List ℕ)} {row : List ℕ} → Named p → RowsOf (suc endpoints_max) (λ c a. joins p.service_links a c) table
    → ((v : ℕ) → T (marked row v) → Reached (joins p.links) held v) → ((v : ℕ) → Reached (joins p.links) held v → T (marked row v)) → Meets table row (served p (marks p held))
unfolding linked_in
serving p held {table} {row} n t marks_reached reached_marks = record { meet = meet }
  where
    meet : (c : ℕ) → Meet (marked (get_or table c [])) (marked row) (served p (marks p held) c)
    meet c =
        record {
          common = λ s. let r = marked_served p held c s in (r.location, subst T (sym (t.same c r.location)) r.serves, reached_marks r.location r.reached);
          apart = λ s v a b. T_not (served p (marks p held) c) s (served_marked n (record { location = v; serves = subst T (t.same c v) a; reached = marks_reached v b }));
        }

-- the row of what a walk reaches is one
pub walk_meets : {p : Picture} {held : ℕ → Bool} {table : List (List ℕ)} {row parent depth : List ℕ} → Named p
    → RowsOf (suc endpoints_max) (λ c a. joins p.service_links a c) table → Walked (joins p.links) held (marked row) parent depth
    → Meets table row (served p (marks p held))
walk_meets {p} {held} n t w = serving p held n t w.marks_reached w.reached_marks

-- nothing is served by nothing
pub none_served : (table : List (List ℕ)) (row : List ℕ) → ((v : ℕ) → ¬ T (marked row v)) → Meets table row (λ _. false)
none_served table row n = record { meet = λ c. record { common = λ t. absurd t; apart = λ t v a b. n v b } }

-- ---- the sums

-- the tables of an accepted picture are as the sums need them
pub sums_ready : (bs : List ℕ) (h : Header) → Read bs h → {t : Tables} {words : ℕ} {before after : List ℕ} → TablesOf (picture_of bs) t
    → Narrow words before → Narrow words after → Small t.weights × (h.endpoints ≤ endpoints_max) × Narrow words before × Narrow words after
sums_ready bs h r t b a =
    (record { many = t.ends.many; weight = λ c. rw (t.ends.weight c) (weight_small bs c) }, (read_limited bs h r).counts.endpoints_most, b, a)

module _ (p : Picture) (weights guarded : List ℕ) (e : EndpointsOf p weights guarded) (d : ℕ) (many : d ≡ endpoint_count p) (f g : ℕ → Bool) where
  pub between_sum : {w w' : ℕ → ℕ} → ((c : ℕ) → w c ≡ w' c) → sum_between w d f g ≡ sum_where p w' (λ c. f c && not (g c))
  unfolding sum_between sum_where
  between_sum same =
      ap₂ (λ (h : ℕ → ℕ) (k : ℕ). sum (map h (range 1 k))) (fun_ext (λ c. ap (λ (x : ℕ). on (f c && not (g c)) x) (same c))) many

  pub between_mark : mark_between guarded d f g ≡ on (any (λ c. (endpoint_of p c).protected && (f c && not (g c))) (range 1 (endpoint_count p))) 1
  unfolding mark_between
  between_mark =
      ap₂ (λ (h : ℕ → Bool) (k : ℕ). on (any h (range 1 k)) 1) (fun_ext (λ c. ap (λ (x : Bool). x && (f c && not (g c))) (e.protected c))) many

-- with nothing left, what is lost is all that is served
pub all_served : (p : Picture) (w : ℕ → ℕ) (f : ℕ → Bool) → sum_where p w (λ c. f c && not false) ≡ sum_where p w f
all_served p w f = ap (sum_where p w) (fun_ext (λ c. and-true (f c)))

-- ---- what weighing gives, by the rows of what is reached

-- the mark of what is lost between any two moments
pub lost_mark : {p : Picture} {table : List (List ℕ)} {weights guarded : List ℕ} {d : ℕ} → EndpointsOf p weights guarded → d ≡ endpoint_count p
    → (earlier later : ℕ → Bool) → {row row' : List ℕ} → Meets table row (served p (marks p earlier)) → Meets table row' (served p (marks p later))
    → {lost : Lost} → LostBetween table weights guarded d row row' lost → lost.mark ≡ on (cut_protected p (marks p earlier) (marks p later)) 1
unfolding cut_protected cut
lost_mark {p} {weights = weights} {guarded} {d} e many earlier later now left l =
    l.marks (served p (marks p earlier)) (served p (marks p later)) now left
    ∙ between_mark p weights guarded e d many (served p (marks p earlier)) (served p (marks p later))

module _ {p : Picture} {table : List (List ℕ)} {weights guarded : List ℕ} {d : ℕ} (e : EndpointsOf p weights guarded) (many : d ≡ endpoint_count p) {row : List ℕ}
    (now : Meets table row (served p (marks p (is_held p)))) where
  pub served_met : {none : List ℕ} {lost : Lost} → ((v : ℕ) → ¬ T (marked none v)) → LostBetween table weights guarded d row none lost → lost.weight ≡ served_weight p
  unfolding served_weight
  served_met {none} n l =
      l.weighs (served p (marks p (is_held p))) (λ _. false) now (none_served table none n)
      ∙ between_sum p weights guarded e d many (served p (marks p (is_held p))) (λ _. false) e.weight ∙ all_served p (weight_of p) (served p (marks p (is_held p)))

  module _ (b : ℕ) {row' : List ℕ} (without : Meets table row' (served p (marks p (held_without p b)))) {lost : Lost} (l : LostBetween table weights guarded d row row' lost) where
    before : ℕ → Bool
    before = served p (marks p (is_held p))

    after : ℕ → Bool
    after = served p (marks p (held_without p b))

    pub loss_met : lost.weight ≡ (weighed p b).loss
    unfolding weighed cut before after
    loss_met = l.weighs before after now without ∙ between_sum p weights guarded e d many before after e.weight

    pub cuts_met : lost.count ≡ (weighed p b).cuts
    unfolding weighed cut before after
    cuts_met = l.counts before after now without ∙ between_sum p weights guarded e d many before after (λ _. refl)

    pub mark_met : lost.mark ≡ (weighed p b).mark
    unfolding weighed
    mark_met = lost_mark e many (is_held p) (held_without p b) now without l
