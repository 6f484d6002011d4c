-- The rules that an act is judged by, in their order. Document 01, "Checking and evicting", and 02, C-19. Assumes nothing.
use Rattle.std.specs.Prelude.{Bool, List, [], ◌∷◌, ◌++◌, ◌≡◌, ◌≢◌, ℕ, ◌<◌, T}
use Rattle.lists.specs.Rules.{Rule}
use Rattle.picture.specs.Picture.{Picture, picture_of, slot_of}
use Rattle.picture.specs.Rules.{rules}
use Rattle.network.specs.Words.{block_count, in_block, without_block, LosesProtected, Admissible}
use Rattle.acts.specs.declared.Act.{Act}
use Rattle.acts.specs.declared.Act.TheVariants.{Evict, Reload, Free}
use Rattle.acts.specs.Acts.{after, held_or_recoverable, near_after}

-- the act changes a slot of the block
pub record Changes (a : Act) (p : Picture) (b : ℕ) : Type 0 where
  pub slot : ℕ
  pub inside : T (in_block p b slot)
  pub other : after a (slot_of p slot).state ≢ (slot_of p slot).state

-- a protected endpoint has a chain through the locations of `held`, and has none without block b. Over what is held it is `CutsProtected`
abbrev pub CutsOver : Picture → (ℕ → Bool) → ℕ → Type 0
CutsOver p held b = LosesProtected p held (without_block p held b)

-- not so: "evict or free cuts a protected cab" (01). "So free is also judged over chains of held or recoverable slots: it gets 10 where a
-- protected cab that has such a chain would have none after" (02, C-19). Reload cuts nothing
abbrev pub Spares : Act → Picture → ℕ → Type 0
Spares Evict p b = Admissible p b
Spares Reload p b = Unit {0}
Spares Free p b = Admissible p b × ¬ CutsOver p (held_or_recoverable p) b

-- "reload adds a held near slot and more than κ are then held"
pub record Crowds (p : Picture) (b : ℕ) : Type 0 where
  pub slot : ℕ
  pub inside : T (in_block p b slot)
  pub near : T (slot_of p slot).near
  pub recoverable : (slot_of p slot).state ≡ 1
  pub over : p.near_limit < near_after p b

-- reload leaves the limit kept or adds nothing near; the other acts add nothing
abbrev pub Leaves : Act → Picture → ℕ → Type 0
Leaves Evict p b = Unit {0}
Leaves Reload p b = ¬ Crowds p b
Leaves Free p b = Unit {0}

-- the rules with their numbers: "Acts are judged in the order picture, 8, 11, 10, 12". "An act without a fault is done"
unfoldable pub act_rules : Act → List ℕ → ℕ → List Rule
act_rules a bs b =
    rules bs
    ++ (record { number = 8; holds = b < block_count (picture_of bs) }
    ∷ record { number = 11; holds = Changes a (picture_of bs) b }
    ∷ record { number = 10; holds = Spares a (picture_of bs) b }
    ∷ record { number = 12; holds = Leaves a (picture_of bs) b }
    ∷ [])
