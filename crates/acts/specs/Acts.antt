-- The acts: evict, reload and free. Document 01, "Checking and evicting". Assumes nothing.
use Rattle.std.specs.Prelude.{Bool, ◌&&◌, ◌||◌, cond, List, [], ◌∷◌, map, ℕ, zero, suc, ◌+◌, ◌*◌, ◌≤◌, ◌<◌, T, eqb, length}
use Rattle.bits.specs.Bits.{put_field}
use Rattle.lists.specs.Lists.{range, sum, filter}
use Rattle.picture.specs.declared.Edition.{Edition}
use Rattle.picture.specs.Layout.{edition_of, state_bits, slot_widths, slots_at}
use Rattle.picture.specs.Picture.{Picture, Slot, picture_of, slot_of}
use Rattle.network.specs.Words.{slot_count, in_block, is_held}
use Rattle.network.specs.Tests.{is_near_held}
use Rattle.acts.specs.declared.Act.{Act}
use Rattle.acts.specs.declared.Act.TheVariants.{Evict, Reload, Free}

-- a slot's state after an act on its block: "Evict turns b's held slots into recoverable ones", "Reload turns b's recoverable slots into
-- held ones. Free turns held and recoverable ones into freed ones; freed stays freed"
unfoldable pub after : Act → ℕ → ℕ
after Evict s = cond (eqb s 0) 1 s
after Reload s = cond (eqb s 1) 0 s
after Free s = 2

-- "held or recoverable slots" (02, C-19), and the origin
unfoldable pub held_or_recoverable : Picture → ℕ → Bool
held_or_recoverable p v = is_held p v || eqb (slot_of p v).state 1

-- the slots of block b
unfoldable pub block_slots : Picture → ℕ → List ℕ
block_slots p b = range (b * p.block_size + 1) p.block_size

-- slot v is a near slot that a reload of block b adds to the held ones
unfoldable pub recoverable_near : Picture → ℕ → ℕ → Bool
recoverable_near p b v = in_block p b v && ((slot_of p v).near && eqb (slot_of p v).state 1)

-- how many near slots are held after a reload of block b
unfoldable pub near_after : Picture → ℕ → ℕ
near_after p b = length (filter (λ v. is_near_held p v || recoverable_near p b v) (range 1 (slot_count p)))

-- the bit at which the slot with i slots before it starts, and with it its state
unfoldable pub state_at : Edition → ℕ → ℕ
state_at e i = slots_at e + i * sum slot_widths

-- bit m is one of the state of a slot of block b
pub record StateBit (e : Edition) (p : Picture) (b m : ℕ) : Type 0 where
  pub before : ℕ
  pub inside : T (in_block p b (suc before))
  pub from : state_at e before ≤ m
  pub below : m < state_at e before + state_bits

-- the bytes with the state of each slot of a list set by f: the state bits only
unfoldable pub put_states : Edition → (ℕ → ℕ) → List ℕ → List ℕ → List ℕ
put_states e f bs [] = bs
put_states e f bs (zero ∷ vs) = put_states e f bs vs
put_states e f bs (suc i ∷ vs) = put_field (put_states e f bs vs) (state_at e i) state_bits (f (suc i))

-- the picture's bytes where the act is done
unfoldable pub done_bytes : Act → List ℕ → ℕ → List ℕ
done_bytes a bs b =
    let p : Picture = picture_of bs in
    put_states (edition_of bs) (λ v. after a (slot_of p v).state) bs (block_slots p b)

-- the same on a picture's lists
unfoldable pub slot_after : Act → Picture → ℕ → ℕ → Slot
slot_after a p b v = record { state = cond (in_block p b v) (after a (slot_of p v).state) (slot_of p v).state; near = (slot_of p v).near }

-- the picture with the states of the block's slots after the act
unfoldable pub act_on : Act → Picture → ℕ → Picture
act_on a p b =
    record {
      block_size = p.block_size;
      near_limit = p.near_limit;
      slots = map (slot_after a p b) (range 1 (slot_count p));
      endpoints = p.endpoints;
      links = p.links;
      service_links = p.service_links;
    }
