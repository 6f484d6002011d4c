-- The number of an act's first fault. Assumes nothing.
use Rattle.std.specs.Prelude.{Bool, not, ◌&&◌, ◌||◌, List, [], ◌∷◌, ℕ, eqb, ltb}
use Rattle.lists.specs.Lists.{range, on, first, any}
use Rattle.picture.specs.Picture.{Picture, picture_of, slot_of}
use Rattle.picture.specs.Faults.{picture_fault}
use Rattle.network.specs.Words.{slot_count, is_held, without_block}
use Rattle.network.specs.Tests.{marks, cut_protected}
use Rattle.weigh.specs.Weighing.{block_fault}
use Rattle.acts.specs.declared.Act.{Act}
use Rattle.acts.specs.declared.Act.TheVariants.{Evict, Reload, Free}
use Rattle.acts.specs.Acts.{after, held_or_recoverable, block_slots, recoverable_near, near_after}

-- the act changes a slot: 11 where it does not
unfoldable pub changes : Act → Picture → ℕ → Bool
changes a p b = any (λ v. not (eqb (after a (slot_of p v).state) (slot_of p v).state)) (block_slots p b)

-- a protected endpoint has a chain through the locations of `held`, and has none without block b
unfoldable pub cuts_over : Picture → (ℕ → Bool) → ℕ → Bool
cuts_over p held b = cut_protected p (marks p held) (marks p (without_block p held b))

-- 10: evict is judged over what is held, free over that and over what is held or recoverable
unfoldable pub cut_fault : Act → Picture → ℕ → ℕ
cut_fault Evict p b = on (cuts_over p (is_held p) b) 10
cut_fault Reload p b = 0
cut_fault Free p b = on (cuts_over p (is_held p) b || cuts_over p (held_or_recoverable p) b) 10

-- 12: reload adds a held near slot and more than κ are then held
unfoldable pub near_fault : Act → Picture → ℕ → ℕ
near_fault Evict p b = 0
near_fault Reload p b = on (any (recoverable_near p b) (range 1 (slot_count p)) && ltb p.near_limit (near_after p b)) 12
near_fault Free p b = 0

-- the number of the first fault: "Acts are judged in the order picture, 8, 11, 10, 12"
unfoldable pub act_fault : Act → List ℕ → ℕ → ℕ
act_fault a bs b =
    let p : Picture = picture_of bs in
    first (picture_fault bs ∷ block_fault p b ∷ on (not (changes a p b)) 11 ∷ cut_fault a p b ∷ near_fault a p b ∷ [])
