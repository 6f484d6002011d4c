-- A repeated link counts once, and so does a repeated service link: nothing that is promised of a picture changes. Assumes nothing.
use mathlib.Core.Path.{◌≡◌, refl, sym, ap, ◌∙◌, subst, subst₂, fun_ext}
use mathlib.Core.Bool.{Bool, true, false, not, ◌&&◌, ◌||◌}
use mathlib.Core.Logic.Iff
use mathlib.Core.Logic.{◌↔◌}
use mathlib.Core.List.{List, ◌∷◌, ◌++◌, map}
use Prim.Native.Nat.{ℕ, zero, suc, ◌+◌, ◌*◌, ◌/◌, ◌≤◌}
use lib.Dec.{T, leb, eqb}
use lib.ListN.{length, get_or}
use Rattle.lists.specs.Lists.{range, on, sum, all, any, filter, item}
use Rattle.lists.specs.Totals.{Total}
use Rattle.lists.proofs.Tests.{any_append, at_any, all_any}
use Rattle.graph.specs.Chains.{Reached}
use Rattle.graph.specs.Rounds.{reached_in}
use Rattle.picture.specs.declared.Link.{Link}
use Rattle.picture.specs.Picture.{Slot, Endpoint, Picture, slot_of, endpoint_of}
use Rattle.picture.specs.Rules.{no_link}
use Rattle.network.specs.Words.{slot_count, endpoint_count, block_count, in_block, is_held, without_block, held_without, joins, weight_of, Served, Loses, Cuts, Sum, ServedWeight, Loss, CutCount, LosesProtected, CutsProtected, Candidate}
use Rattle.network.specs.Tests.{marks, served, cut, cut_protected, sum_where, served_weight, weighed, is_near_held, is_candidate, candidates}
use Rattle.network.specs.Repeats.{Repeats, same, again, Repeated}
use Rattle.network.proofs.Named.{joins_at}
use Rattle.network.proofs.Weights.{total_same}

-- ---- a test of any link tells no copy from the first

module _ (f : Link → Bool) where
  -- a link with these ends is this link
  found_there : (ls : List Link) (l : Link) → T (joins ls l.from l.to) → T (f l) → T (any f ls)
  found_there ls l t h =
      let j = joins_at ls l.from l.to t in
      let e : get_or ls j.at no_link ≡ l = λ i. record { from = j.from i; to = j.to i } in
      at_any no_link f ls j.at j.within (subst (λ (x : Link). T (f x)) (sym e) h)

  absorbed : (a b c : Bool) → (T b → T (a || c)) → (a || (b || c)) ≡ (a || c)
  absorbed true b c h = refl
  absorbed false true true h = refl
  absorbed false true false h = absurd (h tt)
  absorbed false false c h = refl

  pub repeats_any : {ls ls' : List Link} → Repeats ls ls' → any f ls ≡ any f ls'
  unfolding any
  repeats_any same = refl
  repeats_any (again xs l ys t r) =
      repeats_any r ∙ any_append f xs ys
      ∙ sym (any_append f xs (l ∷ ys) ∙ absorbed (any f xs) (f l) (any f ys) (λ h. subst T (any_append f xs ys) (found_there (xs ++ ys) l t h)))

-- nor does a test of all links
pub repeats_all : (f : Link → Bool) {ls ls' : List Link} → Repeats ls ls' → all f ls ≡ all f ls'
repeats_all f {ls} {ls'} r = all_any f ls ∙ ap not (repeats_any (λ l. not (f l)) r) ∙ sym (all_any f ls')

-- so a repeated link joins nothing new
pub repeats_join : {ls ls' : List Link} → Repeats ls ls' → joins ls ≡ joins ls'
unfolding joins
repeats_join r = fun_ext (λ a. fun_ext (λ b. repeats_any (λ l. eqb l.from a && eqb l.to b) r))

-- ---- the words, one way: the other is the same with the equations turned

module _ {p q : Picture} (links : joins p.links ≡ joins q.links) (services : joins p.service_links ≡ joins q.service_links) where
  served_on : {held held' : ℕ → Bool} {c : ℕ} → held ≡ held' → Served p held c → Served q held' c
  served_on {c = c} e s =
      record {
        location = s.location;
        serves = subst (λ (j : ℕ → ℕ → Bool). T (j s.location c)) services s.serves;
        reached = subst₂ (λ (j : ℕ → ℕ → Bool) (h : ℕ → Bool). Reached j h s.location) links e s.reached;
      }

module _ {p q : Picture} {earlier later earlier' later' : ℕ → Bool} where
  loses_on : {c : ℕ} → Served p earlier c ↔ Served q earlier' c → Served p later c ↔ Served q later' c → Loses p earlier later c → Loses q earlier' later' c
  loses_on now left k = record { before = now.0 k.before; after = λ s. k.after (left.1 s) }

  protected_on : endpoint_count p ≡ endpoint_count q → endpoint_of p ≡ endpoint_of q → ((c : ℕ) → Loses p earlier later c ↔ Loses q earlier' later' c)
      → LosesProtected p earlier later → LosesProtected q earlier' later'
  protected_on count e cuts k =
      record {
        endpoint = k.endpoint;
        some = k.some;
        most = subst (λ (n : ℕ). k.endpoint ≤ n) count k.most;
        protected = subst (λ (f : ℕ → Endpoint). T (f k.endpoint).protected) e k.protected;
        cut = (cuts k.endpoint).0 k.cut;
      }

module _ {p q : Picture} {b : ℕ} where
  candidate_on : in_block p ≡ in_block q → is_held p ≡ is_held q → slot_of p ≡ slot_of q → Candidate p b → Candidate q b
  candidate_on i h s k =
      record {
        slot = k.slot;
        inside = subst (λ (f : ℕ → ℕ → Bool). T (f b k.slot)) i k.inside;
        held = subst (λ (f : ℕ → Bool). T (f k.slot)) h k.held;
        near = subst (λ (f : ℕ → Slot). T (f k.slot).near) s k.near;
      }

sum_on : {P Q : ℕ → Type 0} {w w' : ℕ → ℕ} {k k' s : ℕ} → w ≡ w' → k ≡ k' → ((c : ℕ) → P c ↔ Q c) → Total P w 1 k s → Total Q w' 1 k' s
sum_on {Q = Q} {s = s} w k e t = subst₂ (λ (f : ℕ → ℕ) (n : ℕ). Total Q f 1 n s) w k (total_same e t)

-- ---- two pictures that differ in repeats alone

module _ {p q : Picture} (r : Repeated p q) where
  -- what links and service links join
  pub repeated_links : joins p.links ≡ joins q.links
  repeated_links = repeats_join r.links

  pub repeated_services : joins p.service_links ≡ joins q.service_links
  repeated_services = repeats_join r.service_links

  -- what does not speak of links
  pub same_slot : slot_of p ≡ slot_of q
  unfolding slot_of
  same_slot = λ i v. item (r.slots i) v (record { state = 2; near = false })

  pub same_slots : slot_count p ≡ slot_count q
  unfolding slot_count
  same_slots = ap length r.slots

  pub same_blocks : block_count p ≡ block_count q
  unfolding block_count
  same_blocks = λ i. same_slots i / r.block_size i

  pub same_block : in_block p ≡ in_block q
  unfolding in_block
  same_block = λ i b v. leb (b * r.block_size i + 1) v && leb v (b * r.block_size i + r.block_size i)

  pub same_held : is_held p ≡ is_held q
  unfolding is_held
  same_held = fun_ext go
    where
      go : (v : ℕ) → is_held p v ≡ is_held q v
      go zero = refl
      go (suc j) = λ i. eqb (same_slot i (suc j)).state 0

  pub same_left : held_without p ≡ held_without q
  unfolding without_block
  same_left = λ i b v. same_held i v && not (same_block i b v)

  same_endpoint : endpoint_of p ≡ endpoint_of q
  unfolding endpoint_of
  same_endpoint = λ i c. item (r.endpoints i) c (record { weight = 0; protected = false })

  pub same_endpoints : endpoint_count p ≡ endpoint_count q
  unfolding endpoint_count
  same_endpoints = ap length r.endpoints

  same_weight : weight_of p ≡ weight_of q
  unfolding weight_of
  same_weight = λ i c. (same_endpoint i c).weight

  -- what is computed
  pub repeated_marks : marks p ≡ marks q
  unfolding marks
  repeated_marks = λ i held. reached_in (repeated_links i) held (same_slots i)

  pub repeated_service : served p ≡ served q
  unfolding served
  repeated_service = fun_ext (λ t. fun_ext (λ c. repeats_any (λ l. get_or t l.from false && eqb l.to c) r.service_links))

  pub same_where : sum_where p ≡ sum_where q
  unfolding sum_where
  same_where = λ i w f. sum (map (λ c. on (f c) (w c)) (range 1 (same_endpoints i)))

  pub same_cut : cut p ≡ cut q
  unfolding cut
  same_cut = λ i now left c. repeated_service i now c && not (repeated_service i left c)

  pub same_protected : cut_protected p ≡ cut_protected q
  unfolding cut_protected
  same_protected = λ i now left. any (λ c. (same_endpoint i c).protected && same_cut i now left c) (range 1 (same_endpoints i))

  pub repeated_served_weight : served_weight p ≡ served_weight q
  unfolding served_weight
  repeated_served_weight = λ i. same_where i (same_weight i) (repeated_service i (repeated_marks i (same_held i)))

  pub repeated_weighed : weighed p ≡ weighed q
  unfolding weighed
  repeated_weighed =
      λ i b.
      let hit : ℕ → Bool = same_cut i (repeated_marks i (same_held i)) (repeated_marks i (same_left i b)) in
      record {
        block = b;
        loss = same_where i (same_weight i) hit;
        cuts = same_where i (λ _. 1) hit;
        mark = on (same_protected i (repeated_marks i (same_held i)) (repeated_marks i (same_left i b))) 1;
      }

  pub repeated_candidates : candidates p ≡ candidates q
  unfolding candidates is_candidate is_near_held
  repeated_candidates =
      λ i. filter (λ b. any (λ v. same_block i b v && (same_held i v && (same_slot i v).near)) (range 1 (same_slots i))) (range 0 (same_blocks i))

  -- the words by chains
  served_same : {held held' : ℕ → Bool} → held ≡ held' → (c : ℕ) → Served p held c ↔ Served q held' c
  served_same e c = (served_on repeated_links repeated_services e, served_on (sym repeated_links) (sym repeated_services) (sym e))

  pub repeated_served : (held : ℕ → Bool) (c : ℕ) → Served p held c ↔ Served q held c
  repeated_served held = served_same refl

  pub repeated_cuts : (b c : ℕ) → Cuts p b c ↔ Cuts q b c
  repeated_cuts b c =
      let now = served_same same_held c in
      let left = served_same (λ i. same_left i b) c in
      (loses_on now left, loses_on (Iff.symm now) (Iff.symm left))

  pub repeated_cuts_protected : (b : ℕ) → CutsProtected p b ↔ CutsProtected q b
  repeated_cuts_protected b = (
    protected_on same_endpoints same_endpoint (repeated_cuts b),
    protected_on (sym same_endpoints) (sym same_endpoint) (λ c. Iff.symm (repeated_cuts b c)),
  )

  sum_same : {w w' : ℕ → ℕ} {P Q : ℕ → Type 0} → w ≡ w' → ((c : ℕ) → P c ↔ Q c) → (s : ℕ) → Sum p w P s ↔ Sum q w' Q s
  sum_same w e s = (sum_on w same_endpoints e, sum_on (sym w) (sym same_endpoints) (λ c. Iff.symm (e c)))

  pub repeated_weight : (held : ℕ → Bool) (s : ℕ) → ServedWeight p held s ↔ ServedWeight q held s
  repeated_weight held = sum_same same_weight (repeated_served held)

  pub repeated_loss : (b s : ℕ) → Loss p b s ↔ Loss q b s
  repeated_loss b = sum_same same_weight (repeated_cuts b)

  pub repeated_cut_count : (b s : ℕ) → CutCount p b s ↔ CutCount q b s
  repeated_cut_count b = sum_same refl (repeated_cuts b)

  pub repeated_candidate : (b : ℕ) → Candidate p b ↔ Candidate q b
  repeated_candidate b = (candidate_on same_block same_held same_slot, candidate_on (sym same_block) (sym same_held) (sym same_slot))
