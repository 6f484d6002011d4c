-- Tests of a list's first elements, one more at a time. Assumes nothing.
use mathlib.Core.Path.{◌≡◌, refl, ap}
use mathlib.Core.Bool.{Bool, false, ◌||◌, or-false}
use mathlib.Core.List.{List}
use Prim.Native.Nat.{ℕ, ◌+◌, ◌<◌, ◌≤◌}
use native.Mathlib.Numerals.{add-one}
use lib.ListN.{length, get_or, take}
use lib.Seq.{take_all, take-suc}
use Rattle.lists.specs.Lists.{any}
use Rattle.lists.proofs.Tests.{any_append}

module _ {A : Type 0} (d : A) (f : A → Bool) where
  pub any_take_none : (l : List A) → any f (take 0 l) ≡ false
  unfolding any
  any_take_none l = refl

  pub any_take_more : (l : List A) (i : ℕ) → i < length l → any f (take (i + 1) l) ≡ (any f (take i l) || f (get_or l i d))
  unfolding any
  any_take_more l i h = rw (add-one, take-suc l i d h, any_append, or-false)

  pub any_take_all : (l : List A) (i : ℕ) → length l ≤ i → any f (take i l) ≡ any f l
  any_take_all l i h = ap (any f) (take_all i l h)
