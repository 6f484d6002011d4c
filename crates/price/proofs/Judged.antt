-- The number that pricing is answered with is that of the first rule that is broken. Assumes nothing.
use mathlib.Core.Path.{◌≡◌, refl, sym, ◌∙◌}
use mathlib.Core.Bool.{Bool, not, ◌&&◌}
use mathlib.Core.Logic.{◌≢◌}
use mathlib.Core.List.{List, [], ◌∷◌}
use Prim.Native.Nat.{ℕ, ◌*◌, ◌%◌, ◌≤◌, ◌<◌}
use native.Mathlib.Omega.{arith}
use borrow.Author.Tests.{le-leb, eq-eqb}
use lib.Dec.{T, eqb, leb, leb→le, eqb→eq}
use lib.ListN.{length, get_or}
use Rattle.lists.specs.Lists.{on}
use Rattle.lists.specs.Rules.{Rule, Judged, AllHold, more, none}
use Rattle.lists.proofs.Tests.{and_T, not_not_T}
use Rattle.lists.proofs.Faults.{on_zero, on_told, first_map_none, first_map_clean, judge_right, judge_each, judge_none, Numbered, judged_all, all_judged}
use Rattle.lists.proofs.Rules.{judged_then, numbered_both, hold_left, hold_right}
use Rattle.picture.specs.declared.Link.{Link}
use Rattle.picture.specs.Picture.{Picture, picture_of}
use Rattle.picture.specs.Faults.{picture_fault}
use Rattle.picture.specs.Rules.{no_link, rules}
use Rattle.picture.proofs.Accepted.{picture_judged, numbered, holds_accepted}
use Rattle.network.specs.Words.{endpoint_count}
use Rattle.network.proofs.Named.{joins_at, at_joins}
use Rattle.price.specs.declared.Record.{Record}
use Rattle.price.specs.Traffic.{record_bytes, records_max, records_of, no_record}
use Rattle.price.specs.Feeders.{Flat}
use Rattle.price.specs.Rules.{Whole, Endpoints, price_rules}
use Rattle.price.specs.Faults.{link_start_fault, flat_fault, length_fault, record_fault, records_fault, price_fault}

-- ---- a flat network

pub right_start : (l : Link) → link_start_fault l ≡ 0 → l.from ≡ 0
unfolding link_start_fault
right_start l e = eqb→eq _ _ (not_not_T (eqb l.from 0) (on_zero (not (eqb l.from 0)) 18 e))

pub start_right : (l : Link) → l.from ≡ 0 → link_start_fault l ≡ 0
unfolding link_start_fault on
start_right l e = rw (eq-eqb _ _ e)

pub start_told : (l : Link) → link_start_fault l ≢ 0 → link_start_fault l ≡ 19
unfolding link_start_fault
start_told l = on_told _ 19

module _ (p : Picture) where
  starts_flat : ((i : ℕ) → i < length p.links → link_start_fault (get_or p.links i no_link) ≡ 0) → Flat p
  starts_flat c = record { start = λ a b t. let j = joins_at p.links a b t in sym j.from ∙ right_start _ (c j.at j.within) }

  flat_starts : Flat p → (i : ℕ) → i < length p.links → link_start_fault (get_or p.links i no_link) ≡ 0
  flat_starts f i h = start_right _ (f.start _ _ (at_joins (record { at = i; within = h; from = refl; to = refl })))

  -- no link has a fault exactly where the network is flat
  pub right_flat : flat_fault p ≡ 0 → Flat p
  unfolding flat_fault
  right_flat e = starts_flat (first_map_none link_start_fault no_link p.links e)

  pub flat_right : Flat p → flat_fault p ≡ 0
  unfolding flat_fault
  flat_right f = first_map_clean link_start_fault no_link p.links (flat_starts f)

-- ---- the length of the records

-- the test of `length_fault`
abbrev pub is_whole : List ℕ → Bool
is_whole records = eqb (length records % record_bytes) 0 && leb (length records) (records_max * record_bytes)

pub right_whole : (records : List ℕ) → T (is_whole records) → Whole records
right_whole records t =
    let s = and_T (eqb (length records % record_bytes) 0) (leb (length records) (records_max * record_bytes)) t in
    record { multiple = eqb→eq _ _ s.0; most = leb→le _ _ s.1 }

pub whole_right : (records : List ℕ) → Whole records → T (is_whole records)
whole_right records w = rw (eq-eqb _ _ w.multiple, le-leb _ _ w.most) tt

-- ---- the endpoints of the records

module _ (d : ℕ) where
  pub right_record : (r : Record) → record_fault d r ≡ 0 → (1 ≤ r.endpoint) × (r.endpoint ≤ d)
  unfolding record_fault
  right_record r e =
      let within : Bool = leb 1 r.endpoint && leb r.endpoint d in
      let t = and_T (leb 1 r.endpoint) (leb r.endpoint d) (not_not_T within (on_zero (not within) 20 e)) in
      (leb→le _ _ t.0, leb→le _ _ t.1)

  pub record_right : (r : Record) → 1 ≤ r.endpoint → r.endpoint ≤ d → record_fault d r ≡ 0
  unfolding record_fault on
  record_right r s m = rw (le-leb _ _ s, le-leb _ _ m)

  pub record_told : (r : Record) → record_fault d r ≢ 0 → record_fault d r ≡ 21
  unfolding record_fault
  record_told r = on_told _ 21

  module _ (rs : List Record) where
    each_endpoint : ((i : ℕ) → i < length rs → record_fault d (get_or rs i no_record) ≡ 0) → Endpoints d rs
    each_endpoint c = record { some = λ i h. (right_record _ (c i h)).0; most = λ i h. (right_record _ (c i h)).1 }

    endpoint_each : Endpoints d rs → (i : ℕ) → i < length rs → record_fault d (get_or rs i no_record) ≡ 0
    endpoint_each k i h = record_right _ (k.some i h) (k.most i h)

    -- no record has a fault exactly where all name an endpoint of the picture
    pub right_endpoints : records_fault d rs ≡ 0 → Endpoints d rs
    unfolding records_fault
    right_endpoints e = each_endpoint (first_map_none (record_fault d) no_record rs e)

-- ---- the number, and when a call is answered with counters

-- the rules, each by a name: a view of `price_rules`
pub record Right (bs records : List ℕ) : Type 0 where
  pub accepted : picture_fault bs ≡ 0
  pub flat : Flat (picture_of bs)
  pub whole : Whole records
  pub endpoints : Endpoints (endpoint_count (picture_of bs)) (records_of records)

module _ (bs records : List ℕ) where
  -- which number
  pub price_judged : Judged (price_rules bs records) (price_fault bs records)
  unfolding price_rules price_fault flat_fault length_fault records_fault
  price_judged =
      let p = picture_of bs in
      let d = endpoint_count p in
      let rs = records_of records in
      judged_then _ (picture_judged bs) (numbered bs)
      (λ z.
      judge_each _ _ link_start_fault no_link p.links _ (starts_flat p) (flat_starts p) start_told
      (judge_right _ _ (is_whole records) _ (λ e. absurd (omega arith)) (right_whole records) (whole_right records)
      (judge_each _ _ (record_fault d) no_record rs [] (each_endpoint d rs) (endpoint_each d rs) (record_told d) judge_none)))

  -- no number is 0
  pub price_numbered : Numbered (price_rules bs records)
  unfolding price_rules
  price_numbered = numbered_both (rules bs) _ (numbered bs) (λ e. absurd (omega arith), (λ e. absurd (omega arith), (λ e. absurd (omega arith), tt)))

  -- priced exactly where every rule holds
  pub priced_holds : price_fault bs records ≡ 0 → AllHold (price_rules bs records)
  priced_holds = judged_all price_judged price_numbered

  pub holds_priced : AllHold (price_rules bs records) → price_fault bs records ≡ 0
  holds_priced = all_judged price_judged

  pub priced_right : price_fault bs records ≡ 0 → Right bs records
  unfolding price_rules
  priced_right z =
      let held = priced_holds z in
      let own = three (hold_right (rules bs) _ held) in
      record { accepted = holds_accepted bs (hold_left (rules bs) _ held); flat = own.0; whole = own.1; endpoints = own.2 }
    where
      three : {r s t : Rule} → AllHold (r ∷ s ∷ t ∷ []) → r.holds × s.holds × t.holds
      three (more f (more w (more k none))) = (f, w, k)
