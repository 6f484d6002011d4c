-- The tests of a picture say what its rules say. Assumes nothing.
use mathlib.Core.Path.{◌≡◌, ap, ◌∙◌}
use mathlib.Core.Bool.{not, ◌||◌}
use mathlib.Core.Logic.{◌≢◌}
use mathlib.Core.List.{List, [], ◌++◌, map}
use Prim.Native.Nat.{ℕ, zero, suc, ◌+◌, ◌-◌, ◌*◌, ◌/◌, ◌%◌, ◌≤◌, ◌<◌, zero-le, suc-le-suc}
use native.Mathlib.Omega.{arith}
use lib.Dec.{T, eqb, leb, ltb, leb→le, eqb→eq, ltb→lt, nltb→le}
use borrow.Author.Tests.{le-leb, le-ltb, eq-eqb, ne_eqb}
use lib.ListN.{length, get_or}
use Rattle.bits.specs.Bits.{bit_at, field_at}
use Rattle.bits.proofs.Reading.{field_at_zeros, zeros_field_at}
use Rattle.lists.specs.Lists.{on, first, item}
use Rattle.lists.specs.Rules.{Rule, each_rules, Judged}
use Rattle.lists.proofs.Tests.{and_T, not_or}
use Rattle.lists.proofs.Faults.{on_zero, on_told, judge_test, judge_each, judge_none, Numbered}
use Rattle.lists.proofs.Rules.{judged_then, numbered_both, each_judged, each_numbered}
use Rattle.picture.specs.declared.Header.{Header}
use Rattle.picture.specs.declared.Link.{Link}
use Rattle.picture.specs.Layout.{blocks_max, endpoints_max, links_max, state_max, end_at, size_of}
use Rattle.picture.specs.Picture.{Picture, slot_of}
use Rattle.picture.specs.Faults.{sizes_right, counts_right, state_fault, link_fault, service_link_fault, list_faults, end_right}
use Rattle.picture.specs.Rules.{Sizes, Counts, States, Ends, no_link, service_link_rules, list_rules}
use Rattle.picture.specs.Inner.{Known, Limited}

-- ---- the header

module _ (h : Header) where
  pub right_sizes : T (sizes_right h) → Sizes h
  unfolding sizes_right
  right_sizes t =
      let t1 = and_T (leb 1 h.block_size) _ t in
      let t2 = and_T (leb h.block_size h.edition.block_size_max) _ t1.1 in
      let t3 = and_T (leb 1 h.slots) _ t2.1 in
      let t4 = and_T (leb h.slots h.edition.slots_max) _ t3.1 in
      let t5 = and_T (eqb (h.slots % h.block_size) 0) (leb (h.slots / h.block_size) blocks_max) t4.1 in
      record {
        size_some = leb→le _ _ t1.0;
        size_most = leb→le _ _ t2.0;
        slots_some = leb→le _ _ t3.0;
        slots_most = leb→le _ _ t4.0;
        multiple = eqb→eq _ _ t5.0;
        blocks_most = leb→le _ _ t5.1;
      }

  pub sizes_right_lem : Sizes h → T (sizes_right h)
  unfolding sizes_right
  sizes_right_lem s =
      rw (le-leb _ _ s.size_some, le-leb _ _ s.size_most, le-leb _ _ s.slots_some, le-leb _ _ s.slots_most, eq-eqb _ _ s.multiple, le-leb _ _ s.blocks_most) tt

  pub right_counts : T (counts_right h) → Counts h
  unfolding counts_right
  right_counts t =
      let t1 = and_T (leb h.endpoints endpoints_max) _ t in
      let t2 = and_T (leb h.links links_max) (leb h.service_links links_max) t1.1 in
      record { endpoints_most = leb→le _ _ t1.0; links_most = leb→le _ _ t2.0; service_links_most = leb→le _ _ t2.1 }

  pub counts_right_lem : Counts h → T (counts_right h)
  unfolding counts_right
  counts_right_lem s = rw (le-leb _ _ s.endpoints_most, le-leb _ _ s.links_most, le-leb _ _ s.service_links_most) tt

pub right_limited : (h : Header) → Known h.edition → T (sizes_right h) → T (counts_right h) → Limited h
right_limited h k s c = record { known = k; slots = (right_sizes h s).slots_most; counts = right_counts h c }

-- ---- the lists

pub right_state : (k : ℕ) → state_fault k ≡ 0 → k ≤ state_max
unfolding state_fault
right_state k e = nltb→le state_max k (on_zero (ltb state_max k) 4 e)

pub state_right : (k : ℕ) → k ≤ state_max → state_fault k ≡ 0
unfolding state_fault on
state_right k h = rw (le-ltb state_max k h)

pub right_link : (n : ℕ) (l : Link) → link_fault n l ≡ 0 → (l.from ≤ n) × (l.to ≤ n)
unfolding link_fault
right_link n l e =
    let t = not_or (ltb n l.from) (ltb n l.to) (on_zero (ltb n l.from || ltb n l.to) 5 e) in
    (nltb→le n l.from t.0, nltb→le n l.to t.1)

pub link_right_lem : (n : ℕ) (l : Link) → l.from ≤ n → l.to ≤ n → link_fault n l ≡ 0
unfolding link_fault on
link_right_lem n l f t = rw (le-ltb _ _ f, le-ltb _ _ t)

-- an endpoint is one of 1 to d exactly where it is neither 0 nor above d
right_endpoint : (d k : ℕ) → T (not (eqb k 0 || ltb d k)) → (1 ≤ k) × (k ≤ d)
right_endpoint d zero t = absurd t
right_endpoint d (suc k) t = (suc-le-suc zero-le, nltb→le d (suc k) (not_or (eqb (suc k) 0) (ltb d (suc k)) t).1)

wrong_endpoint : (d k : ℕ) → T (eqb k 0 || ltb d k) → ¬ ((1 ≤ k) × (k ≤ d))
wrong_endpoint d k t r =
    let some : k ≢ 0 = λ z. absurd (omega (arith, r.0)) in
    absurd (rw (ne_eqb _ _ some, le-ltb _ _ r.1) at t)

-- the two rules of one service link, and of all
service_judged : (n d : ℕ) (l : Link) → Judged (service_link_rules n d l) (service_link_fault n d l)
unfolding service_link_rules service_link_fault
service_judged n d l =
    judge_test _ _ (ltb n l.from) _ (λ z. absurd (omega arith)) (nltb→le n l.from) (λ t m. absurd (omega (arith, ltb→lt n l.from t)))
    (judge_test _ _ (eqb l.to 0 || ltb d l.to) [] (λ z. absurd (omega arith)) (right_endpoint d l.to) (wrong_endpoint d l.to) judge_none)

service_numbered : (n d : ℕ) (l : Link) → Numbered (service_link_rules n d l)
unfolding service_link_rules
service_numbered n d l = (λ z. absurd (omega arith), (λ z. absurd (omega arith), tt))

services_numbered : (n d : ℕ) (ls : List Link) → Numbered (each_rules (service_link_rules n d) ls)
services_numbered n d = each_numbered (service_link_rules n d) (service_numbered n d)

services_judged : (n d : ℕ) (ls : List Link) → Judged (each_rules (service_link_rules n d) ls) (first (map (service_link_fault n d) ls))
services_judged n d ls = each_judged (service_link_rules n d) no_link (service_numbered n d) (service_link_fault n d) ls (λ i h. service_judged n d (get_or ls i no_link))

-- states and links have one number each for their faults
state_told : (k : ℕ) → state_fault k ≢ 0 → state_fault k ≡ 5
unfolding state_fault
state_told k = on_told _ 5

link_told : (n : ℕ) (l : Link) → link_fault n l ≢ 0 → link_fault n l ≡ 6
unfolding link_fault
link_told n l = on_told _ 6

module _ (h : Header) (p : Picture) (long : length p.slots ≡ h.slots) where
  states_judged : ((i : ℕ) → i < length p.slots → state_fault (get_or p.slots i (slot_of p 0)).state ≡ 0) → States h.slots p
  unfolding slot_of item
  states_judged c = record { state = at }
    where
      at : (v : ℕ) → 1 ≤ v → v ≤ h.slots → (slot_of p v).state ≤ state_max
      at zero l m = absurd (omega arith)
      at (suc i) l m = right_state _ (c i (omega arith))

  states_clean : States h.slots p → (i : ℕ) → i < length p.slots → state_fault (get_or p.slots i (slot_of p 0)).state ≡ 0
  unfolding slot_of item
  states_clean s i l = state_right _ (s.state (suc i) (suc-le-suc zero-le) (omega arith))

  -- the rules of the lists, before others
  pub lists_judged : (rs : List Rule) (l : List ℕ) → Judged rs (first l) → Judged (list_rules h p ++ rs) (first (list_faults h p ++ l))
  unfolding list_rules list_faults
  lists_judged rs l j =
      judge_each _ _ (λ s. state_fault s.state) (slot_of p 0) p.slots _ states_judged states_clean (λ s. state_told s.state)
      (judge_each _ _ (link_fault h.slots) no_link p.links _
      (λ c. record { from = λ i m. (right_link _ _ (c i m)).0; to = λ i m. (right_link _ _ (c i m)).1 })
      (λ r i m. link_right_lem _ _ (r.from i m) (r.to i m)) (link_told h.slots)
      (judged_then l (services_judged h.slots h.endpoints p.service_links) (services_numbered h.slots h.endpoints p.service_links) (λ _. j)))

-- no number of the lists is 0
pub lists_numbered : (h : Header) (p : Picture) (rs : List Rule) → Numbered rs → Numbered (list_rules h p ++ rs)
unfolding list_rules
lists_numbered h p rs m = (
  λ z. absurd (omega arith),
  (λ z. absurd (omega arith), numbered_both (each_rules (service_link_rules h.slots h.endpoints) p.service_links) rs (services_numbered h.slots h.endpoints p.service_links) m),
)

-- ---- the end

module _ (h : Header) (bs : List ℕ) (room : end_at h ≤ size_of h * 8) where
  pub right_ends : T (end_right h bs) → Ends h bs
  unfolding end_right
  right_ends t =
      let fill : ℕ = size_of h * 8 - end_at h in
      let u = and_T (eqb (field_at bs (end_at h) fill) 0) (eqb (length bs) (size_of h)) t in
      record {
        fill = λ i l m. ap (bit_at bs) (omega arith) ∙ field_at_zeros bs (end_at h) fill (eqb→eq _ _ u.0) (i - end_at h) (omega arith);
        end = eqb→eq (length bs) (size_of h) u.1;
      }

  pub ends_right : Ends h bs → T (end_right h bs)
  unfolding end_right
  ends_right s =
      rw (eq-eqb _ _ (zeros_field_at bs (end_at h) (size_of h * 8 - end_at h) (λ i l. s.fill (end_at h + i) (omega arith) (omega arith))), eq-eqb _ _ s.end) tt
