-- The number of the first fault of weighing. Assumes nothing.
use mathlib.Core.Path.{◌≡◌, sym}
use mathlib.Core.List.{List}
use Prim.Native.Nat.{ℕ, ◌≤◌, ◌<◌}
use borrow.Author.Tests.{le-leb, lt-leb}
use Rattle.lists.specs.Lists.{on}
use Rattle.lists.proofs.Faults.{end_at_lem}
use Rattle.picture.specs.declared.refusals.Refusal.{Refusal}
use Rattle.picture.specs.declared.refusals.Refusal.TheVariants.{NoBlock}
use Rattle.picture.specs.Refusals.{refusal_number}
use Rattle.picture.specs.Picture.{picture_of}
use Rattle.picture.specs.Faults.{picture_fault}
use Rattle.picture.proofs.Refusing.{refused_first, passed_first}
use Rattle.network.specs.Words.{block_count}
use Rattle.weigh.specs.Weighing.{block_fault, weigh_fault}

module _ (bs : List ℕ) (b : ℕ) where
  -- the picture has a fault
  pub weigh_faulty : (e : Refusal) → refusal_number e ≡ picture_fault bs → refusal_number e ≡ weigh_fault bs b
  unfolding weigh_fault
  weigh_faulty e q = refused_first e _ q

  -- there is no such block
  pub weigh_no_block : picture_fault bs ≡ 0 → block_count (picture_of bs) ≤ b → refusal_number NoBlock ≡ weigh_fault bs b
  unfolding weigh_fault block_fault on
  weigh_no_block z l = passed_first _ (sym z) (refused_first NoBlock _ (rw (le-leb (block_count (picture_of bs)) b l)))

  -- nothing is wrong
  pub weigh_told : picture_fault bs ≡ 0 → b < block_count (picture_of bs) → 0 ≡ weigh_fault bs b
  unfolding weigh_fault block_fault on
  weigh_told z l = passed_first _ (sym z) (passed_first _ (rw (lt-leb (block_count (picture_of bs)) b l)) end_at_lem)
