-- The candidates as a test and as a list are the blocks with a held near slot. Assumes nothing.
use mathlib.Core.Path.{◌≡◌, refl, sym, ap, ap₂, ◌∙◌, subst, fun_ext}
use mathlib.Core.Bool.{Bool, ◌&&◌}
use mathlib.Core.Logic.{⊎_elim}
use mathlib.Core.List.{List}
use Prim.Native.Nat.{ℕ, zero, suc, ◌+◌, ◌*◌, ◌/◌, ◌%◌, ◌≤◌, ◌<◌, zero-le}
use native.Mathlib.Omega.{arith}
use native.Mathlib.Nat.{zero-add, div-add-mod', lt_of_mul-lt-mul_right}
use borrow.Author.Tests.{le-leb}
use lib.Dec.{T, eqb, leb, leb→le}
use lib.ListN.{length, get_or}
use Rattle.lists.specs.Lists.{range, filter}
use Rattle.lists.proofs.Alls.{same_test}
use Rattle.lists.proofs.Tests.{and_T, T_and}
use Rattle.lists.proofs.Ranges.{any_range, range_any}
use Rattle.lists.proofs.Filters.{filter_below}
use Rattle.lists.proofs.Picks.{item_inside, Placed, filter_passes, range_leaves, filter_rises}
use Rattle.rows.specs.Rows.{marked}
use Rattle.picture.specs.Picture.{Slot, Picture, picture_of, picture_with, slot_of}
use Rattle.picture.specs.Faults.{picture_fault}
use Rattle.picture.proofs.Accepted.{accepted_kept}
use Rattle.network.specs.Words.{slot_count, block_count, in_block, is_held, Candidate}
use Rattle.network.specs.Tests.{is_near_held, is_candidate, candidates}
use Rattle.network.specs.Rows.{SlotRowsOf, block_marked, blocks_marked}
use Rattle.network.proofs.Named.{slots_counted}

-- ---- the test

-- a slot is held where its state is 0
pub held_state : (p : Picture) (v : ℕ) → 1 ≤ v → eqb (slot_of p v).state 0 ≡ is_held p v
unfolding is_held
held_state p zero l = absurd (omega arith)
held_state p (suc i) l = refl

-- a near slot is one of 1 to n: any other number has the default, which is not near
pub near_slot : (p : Picture) (v : ℕ) → T (slot_of p v).near → (1 ≤ v) × (v ≤ slot_count p)
unfolding slot_of slot_count
near_slot p v t = ⊎_elim (λ h. h) (λ e. absurd (subst (λ (s : Slot). T s.near) e t)) (item_inside p.slots v _)

pub candidate_test : (p : Picture) (b : ℕ) → T (is_candidate p b) → Candidate p b
unfolding is_candidate is_near_held
candidate_test p b t =
    let r = any_range _ 1 (slot_count p) t in
    let v = r.number in
    let s = and_T (in_block p b v) (is_held p v && (slot_of p v).near) r.passes in
    let u = and_T (is_held p v) (slot_of p v).near s.1 in
    record { slot = v; inside = s.0; held = u.0; near = u.1 }

pub test_candidate : {p : Picture} {b : ℕ} → Candidate p b → T (is_candidate p b)
unfolding is_candidate is_near_held
test_candidate {p} {b} c =
    let v = c.slot in
    let l = near_slot p v c.near in
    let t = T_and (in_block p b v) (is_held p v && (slot_of p v).near) c.inside (T_and (is_held p v) (slot_of p v).near c.held c.near) in
    range_any _ 1 (slot_count p) (record { number = v; from = l.0; below = omega arith; passes = t })

-- ---- the list: of candidates, all of them, in rising order

module _ (p : Picture) where
  pub candidates_below : (j : ℕ) → j < length (candidates p) → get_or (candidates p) j 0 < block_count p
  unfolding candidates
  candidates_below j h = rw zero-add at (filter_below (is_candidate p) 0 (block_count p) j h)

  pub candidates_are : (j : ℕ) → j < length (candidates p) → Candidate p (get_or (candidates p) j 0)
  unfolding candidates
  candidates_are j h = candidate_test p _ (filter_passes 0 (is_candidate p) (range 0 (block_count p)) j h)

  pub candidates_all : {b : ℕ} → b < block_count p → Candidate p b → Placed 0 (candidates p) b
  unfolding candidates
  candidates_all {b} h c = range_leaves (is_candidate p) 0 (block_count p) (record { number = b; from = zero-le; below = omega arith; passes = test_candidate c })

  pub candidates_rise : (i j : ℕ) → i < j → j < length (candidates p) → get_or (candidates p) i 0 < get_or (candidates p) j 0
  unfolding candidates
  candidates_rise = filter_rises (is_candidate p) 0 (block_count p)

-- ---- every candidate of an accepted picture is one of its blocks

-- a block that starts before the last slot is one of them, where the slots are whole blocks
pub block_below : (n size b : ℕ) → n % size ≡ 0 → b * size < n → b < n / size
block_below n size b m l = lt_of_mul-lt-mul_right size (omega (arith, div-add-mod' n size))

pub candidate_below : (bs : List ℕ) → picture_fault bs ≡ 0 → (b : ℕ) → Candidate (picture_of bs) b → b < block_count (picture_of bs)
unfolding block_count in_block picture_of picture_with
candidate_below bs z b c =
    let p = picture_of bs in
    let v = c.slot in
    let from = leb→le (b * p.block_size + 1) v (and_T (leb (b * p.block_size + 1) v) (leb v (b * p.block_size + p.block_size)) c.inside).0 in
    block_below (slot_count p) p.block_size b (ap (λ (k : ℕ). k % p.block_size) (slots_counted bs) ∙ (accepted_kept bs z).sizes.multiple) (omega (arith, near_slot p v c.near))

-- ---- the candidates by the row of the held near slots

module _ {p : Picture} {holding near : List ℕ} (s : SlotRowsOf p holding near) {size : ℕ} (e : p.block_size ≡ size) where
  pub marked_candidate : (b : ℕ) → block_marked near size b ≡ is_candidate p b
  unfolding block_marked is_near_held in_block
  marked_candidate b = ap (λ (k : ℕ). block_marked near k b) (sym e) ∙ same_test _ _ there back
    where
      there : T (block_marked near p.block_size b) → T (is_candidate p b)
      there t =
          let x = any_range (marked near) (b * p.block_size + 1) p.block_size t in
          let v = x.number in
          let h = and_T (is_held p v) (slot_of p v).near (subst T (s.near v) x.passes) in
          let last : v ≤ b * p.block_size + p.block_size = omega (arith, x.below) in
          let inside : T (in_block p b v) = rw (le-leb (b * p.block_size + 1) v x.from, le-leb v (b * p.block_size + p.block_size) last) tt in
          test_candidate (record { slot = v; inside = inside; held = h.0; near = h.1 })

      back : T (is_candidate p b) → T (block_marked near p.block_size b)
      back t =
          let c = candidate_test p b t in
          let v = c.slot in
          let i = and_T (leb (b * p.block_size + 1) v) (leb v (b * p.block_size + p.block_size)) c.inside in
          let m = subst T (sym (s.near v)) (T_and (is_held p v) (slot_of p v).near c.held c.near) in
          range_any (marked near) (b * p.block_size + 1) p.block_size
          (record { number = v; from = leb→le _ _ i.0; below = omega (arith, leb→le v (b * p.block_size + p.block_size) i.1); passes = m })

  pub marked_candidates : {blocks : ℕ} → block_count p ≡ blocks → blocks_marked near size blocks ≡ candidates p
  unfolding blocks_marked candidates
  marked_candidates q = ap₂ (λ (f : ℕ → Bool) (k : ℕ). filter f (range 0 k)) (fun_ext marked_candidate) (sym q)
