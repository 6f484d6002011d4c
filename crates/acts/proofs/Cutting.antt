-- What the walks through a row of slots find of the protected endpoints is what the chains through these slots say. Assumes nothing.
use mathlib.Core.Path.{◌≡◌, refl}
use mathlib.Core.Bool.{Bool, true, false}
use mathlib.Core.List.{List}
use Prim.Native.Nat.{ℕ}
use lib.Dec.{eqb}
use Rattle.lists.specs.Lists.{on}
use Rattle.rows.specs.Rows.{marked, linked_in}
use Rattle.rows.specs.Ranges.{no_range, without}
use Rattle.graph.specs.Held.{held_in}
use Rattle.graph.specs.Steps.{Walked}
use Rattle.picture.specs.declared.Header.{Header}
use Rattle.picture.specs.Picture.{picture_of}
use Rattle.picture.specs.Inner.{Read}
use Rattle.network.specs.declared.Tables.{Tables}
use Rattle.network.specs.Words.{without_block}
use Rattle.network.specs.Rows.{HeldRow, TablesOf, block_range}
use Rattle.network.proofs.Named.{accepted_named}
use Rattle.network.proofs.Blocks.{read_block_size, read_endpoints}
use Rattle.weigh.specs.Sums.{LostBetween}
use Rattle.weigh.specs.declared.Lost.{Lost}
use Rattle.weigh.proofs.Serving.{now_walked, left_walked, walk_meets, lost_mark}
use Rattle.acts.specs.Faults.{cuts_over}

-- a mark is 1 exactly where its test holds
marked_one : (x : Bool) → eqb (on x 1) 1 ≡ x
unfolding on
marked_one true = refl
marked_one false = refl

module _ {bs : List ℕ} {h : Header} (read : Read bs h) {t : Tables} (tables : TablesOf (picture_of bs) t)
    {held : ℕ → Bool} {slots : List ℕ} (s : HeldRow (picture_of bs) held slots) (b : ℕ) where
  pub mark_cuts : {before after parent depth parent' depth' : List ℕ} → Walked (linked_in t.links) (without no_range (held_in slots)) (marked before) parent depth
      → Walked (linked_in t.links) (without (block_range h.block_size b) (held_in slots)) (marked after) parent' depth'
      → {lost : Lost} → LostBetween t.services t.weights t.protected h.endpoints before after lost
      → eqb lost.mark 1 ≡ cuts_over (picture_of bs) held b
  unfolding cuts_over
  mark_cuts now left lost =
      let p = picture_of bs in
      let named = accepted_named bs read.accepted in
      let before = walk_meets named tables.services (now_walked s tables.links now) in
      let after = walk_meets named tables.services (left_walked s tables.links b (read_block_size bs h read) left) in
      rw (lost_mark tables.ends (read_endpoints bs h read) held (without_block p held b) before after lost) (marked_one _)
