-- Evicting a block takes its loss from the served weight, and nothing else; what is held after a free is what is held after an evict. Assumes nothing.
use mathlib.Core.Path.{◌≡◌, refl, sym, ap, ap₂, ◌∙◌, fun_ext}
use mathlib.Core.Bool.{Bool, true, false, not, ◌&&◌, cond, and-true, and-false}
use mathlib.Core.List.{List}
use Prim.Native.Nat.{ℕ, zero, suc, ◌+◌, ◌*◌, ◌<◌}
use native.Mathlib.Omega.{arith}
use borrow.Author.Tests.{lt-leb}
use lib.Dec.{eqb}
use Rattle.graph.specs.Rounds.{reached_in}
use Rattle.picture.specs.Picture.{Picture, Slot, picture_of, slot_of, endpoint_of}
use Rattle.picture.specs.Faults.{picture_fault}
use Rattle.network.specs.Words.{endpoint_count, block_count, in_block, is_held, without_block, held_without, joins, weight_of, Named}
use Rattle.network.specs.Tests.{marks, served, sum_where, served_weight, weighed}
use Rattle.network.proofs.Named.{accepted_named}
use Rattle.network.proofs.Evicting.{loss_off}
use Rattle.acts.specs.declared.Act.{Act}
use Rattle.acts.specs.declared.Act.TheVariants.{Evict, Free}
use Rattle.acts.specs.Acts.{after, slot_after, act_on, done_bytes}
use Rattle.acts.proofs.Slots.{slots_acted, slot_acted}
use Rattle.acts.proofs.Acted.{acted_picture}

-- an act that leaves no slot of its block in one of these states
pub record Empties (f : ℕ → Bool) (a : Act) : Type 0 where
  pub empties : (s : ℕ) → f (after a s) ≡ false

pub evict_empties : Empties (λ s. eqb s 0) Evict
unfolding after
evict_empties = record { empties = λ s. go s (eqb s 0) refl }
  where
    go : (s : ℕ) (y : Bool) → eqb s 0 ≡ y → eqb (cond y 1 s) 0 ≡ false
    go s true e = refl
    go s false e = e

pub free_empties : {f : ℕ → Bool} → f 2 ≡ false → Empties f Free
unfolding after
free_empties e = record { empties = λ s. e }

-- the origin is in no block
pub origin_apart : (p : Picture) (b : ℕ) → in_block p b 0 ≡ false
unfolding in_block
origin_apart p b = rw (lt-leb (b * p.block_size + 1) 0 (omega arith))

-- a slot's state is one of these after such an act where it was and the slot is not in the block
pub emptied_state : {f : ℕ → Bool} {a : Act} → Empties f a → (p : Picture) (b v : ℕ) → f (slot_of (act_on a p b) v).state ≡ (f (slot_of p v).state && not (in_block p b v))
unfolding slot_after
emptied_state {f} {a} n p b v = ap (λ (s : Slot). f s.state) (slot_acted a p b v) ∙ go (in_block p b v) (slot_of p v).state
  where
    go : (x : Bool) (s : ℕ) → f (cond x (after a s) s) ≡ (f s && not x)
    go true s = n.empties s ∙ sym (and-false (f s))
    go false s = sym (and-true (f s))

module _ {a : Act} (n : Empties (λ s. eqb s 0) a) (p : Picture) (b : ℕ) where
  -- an act that leaves no slot of its block held leaves held what is held without the block
  pub emptied_held : (v : ℕ) → is_held (act_on a p b) v ≡ held_without p b v
  unfolding is_held without_block
  emptied_held zero = sym (ap not (origin_apart p b))
  emptied_held (suc i) = emptied_state n p b (suc i)

  emptied_marks : marks (act_on a p b) (is_held (act_on a p b)) ≡ marks p (held_without p b)
  unfolding marks act_on
  emptied_marks = ap₂ (λ (f : ℕ → Bool) (k : ℕ). reached_in (joins p.links) f k) (fun_ext emptied_held) (slots_acted a p b)

  -- and serves what is served without the block
  emptied_serves : served_weight (act_on a p b) ≡ sum_where p (weight_of p) (served p (marks p (held_without p b)))
  unfolding served_weight sum_where weight_of endpoint_of endpoint_count served act_on
  emptied_serves = ap (λ (t : List Bool). sum_where p (weight_of p) (served p t)) emptied_marks

  -- so it takes the block's loss from the served weight
  pub emptied_weight : Named p → served_weight (act_on a p b) + (weighed p b).loss ≡ served_weight p
  emptied_weight m = ap (λ (w : ℕ). w + (weighed p b).loss) emptied_serves ∙ loss_off m b

-- ---- evict and free

module _ (p : Picture) (b : ℕ) where
  pub evicted_held : (v : ℕ) → is_held (act_on Evict p b) v ≡ held_without p b v
  evicted_held = emptied_held evict_empties p b

  -- a free leaves held what an evict would
  pub freed_held : (v : ℕ) → is_held (act_on Free p b) v ≡ held_without p b v
  freed_held = emptied_held (free_empties refl) p b

-- ---- the same of the bytes

emptied_bytes : {a : Act} → Empties (λ s. eqb s 0) a → (bs : List ℕ) (b : ℕ) → picture_fault bs ≡ 0 → b < block_count (picture_of bs)
    → served_weight (picture_of (done_bytes a bs b)) + (weighed (picture_of bs) b).loss ≡ served_weight (picture_of bs)
emptied_bytes {a} n bs b ok there = rw (acted_picture a bs b ok there) (emptied_weight n (picture_of bs) b (accepted_named bs ok))

module _ (bs : List ℕ) (b : ℕ) (ok : picture_fault bs ≡ 0) (there : b < block_count (picture_of bs)) where
  pub evicted_served : served_weight (picture_of (done_bytes Evict bs b)) + (weighed (picture_of bs) b).loss ≡ served_weight (picture_of bs)
  evicted_served = emptied_bytes evict_empties bs b ok there

  pub freed_served : served_weight (picture_of (done_bytes Free bs b)) + (weighed (picture_of bs) b).loss ≡ served_weight (picture_of bs)
  freed_served = emptied_bytes (free_empties refl) bs b ok there
