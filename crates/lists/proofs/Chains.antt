-- The library's chains over a range of numbers, in the words of `Lists`: whether any number passes a test, how many do, and the place of
-- the first. A chain's closure computes the test and changes nothing. Assumes nothing.
use mathlib.Core.Path.{◌≡◌, refl, ap, ◌∙◌}
use mathlib.Core.Bool.{Bool, true, false, not, cond}
use mathlib.Core.List.{List, [], ◌∷◌}
use mathlib.Core.Logic.{by_cases}
use Prim.Native.Nat.{ℕ, zero, suc, ◌+◌, ◌-◌, ◌≤◌}
use native.Mathlib.Omega.{arith}
use native.Mathlib.Decide.{dec_lt}
use native.Mathlib.Numerals.{add-one}
use denote.Ref.{Bor}
use denote.Param.Members.{Mut}
use lib.Dec.{ltb}
use lib.ListN.{length}
use Rattle.std.specs.Fn.{Called, CalledAt}
use Rattle.std.specs.Iterator.{ChecksAny, FindsPosition, Drains}
use Rattle.std.specs.Iterator.Adapters.{filter_source, filter_callee, filter_steps}
use Rattle.std.specs.List.{range_with_len, list_any, position_or_len, filter as std_filter}
use Rattle.std.specs.Option.{unwrap_or}
use Rattle.std.specs.Prelude.{Option, Some, None}
use Rattle.std.specs.declared.iter.Filter.{Filter}
use Rattle.std.specs.declared.ops.Range.{Range}
use Rattle.std.proofs.iter.Yields.{nat_range_steps}
use Rattle.std.proofs.lemmas.Bool.{lt-ltb, le-ltb}
use Rattle.std.proofs.lemmas.Iterator.{YieldsList, YieldsList-from_range}
use Rattle.std.proofs.lemmas.Iterator.Consumers.{YieldsList-from_filter, count_from_yields_List}
use Rattle.std.proofs.lemmas.Iterator.Search.{any_from_yields_List, position_from_yields_List}
use Rattle.lists.specs.Lists.{range, any, filter, place}
use Rattle.lists.proofs.Ranges.{length_range}
use Rattle.lists.proofs.Searches.{place_le}

-- ---- the library's words are those of `Lists`

same_range : (i k : ℕ) → range_with_len i k ≡ range i k
unfolding range
same_range i zero = refl
same_range i (suc k) = rw (add-one, same_range (suc i) k)

module _ {A : Type 0} (p : A → Bool) where
  same_any : (l : List A) → list_any p l ≡ any p l
  unfolding any
  same_any [] = refl
  same_any (x ∷ l) = rw (same_any l)

  same_filter : (l : List A) → std_filter p l ≡ filter p l
  unfolding filter
  same_filter [] = refl
  same_filter (x ∷ l) = rw (same_filter l)

  same_place : (l : List A) → position_or_len p l ≡ place p l
  unfolding place
  same_place [] = refl
  same_place (x ∷ l) = rw (same_place l) (either (p x))
    where
      either : (b : Bool) → cond (not b) (1 + place p l) 0 ≡ cond b 0 (suc (place p l))
      either true = refl
      either false = omega arith

-- a place is found where it is below the length
found_or : (k m : ℕ) → k ≤ m → unwrap_or (cond (ltb k m) (Some k) None) m ≡ k
found_or k m l = by_cases (dec_lt k m) (λ h. rw (lt-ltb k m h)) (λ h. rw (le-ltb k m (omega arith)) (omega arith))

-- ---- the chains, over the n numbers from i on

-- a range of the library gives them one after the other
numbers : {s : Range ℕ} (i n : ℕ) {end : ℕ} → s ≡ record { start = i; end = end } → end - i ≡ n → YieldsList nat_range_steps (λ x. x) s (range i n)
numbers i n is long = rw same_range at (YieldsList-from_range i _ n is long)

module _ (t : ℕ → Bool) (i n : ℕ) {F : Type 0} {f : F} where
  -- `any` tells whether any of them passes
  pub any_ranged : {g : Mut F (ℕ × Unit {0}) Bool} {s u : Range ℕ} {end : ℕ} {r : Bool} → ChecksAny nat_range_steps g s f r u
      → s ≡ record { start = i; end = end } → end - i ≡ n → ((x : ℕ) (b : Bool) (q : F) → Called g f (x, tt) b q → (q ≡ f) × (b ≡ t x))
      → r ≡ any t (range i n)
  any_ranged ran is long computes = any_from_yields_List t _ f _ ran (numbers i n is long) computes ∙ same_any t (range i n)

  -- `filter` and `count` tell how many of them pass
  pub count_ranged : {g : Mut F (Bor ℕ × Unit {0}) Bool} {w : Filter (Range ℕ) F} {end r : ℕ}
      → (xs : List ℕ) × Drains (filter_steps nat_range_steps g) w xs × (r ≡ length xs)
      → filter_source w ≡ record { start = i; end = end } → end - i ≡ n → filter_callee w ≡ f
      → ((x : ℕ) (b : Bool) (q : F) → CalledAt g f x b q → (q ≡ f) × (b ≡ t x))
      → r ≡ length (filter t (range i n))
  count_ranged ran is long callee computes =
      count_from_yields_List _ _ ran (YieldsList-from_filter _ t (numbers i n is long) callee computes) ∙ ap length (same_filter t (range i n))

  -- `position`, and n where none passes, is the place of the first that does
  pub position_ranged : {g : Mut F (ℕ × Unit {0}) Bool} {s u : Range ℕ} {end : ℕ} {r : Option ℕ} → FindsPosition nat_range_steps g s f r u
      → s ≡ record { start = i; end = end } → end - i ≡ n → ((x : ℕ) (b : Bool) (q : F) → Called g f (x, tt) b q → (q ≡ f) × (b ≡ t x))
      → unwrap_or r n ≡ place t (range i n)
  position_ranged ran is long computes =
      rw (position_from_yields_List t _ f _ ran (numbers i n is long) computes, same_place t (range i n), length_range i n)
      (found_or (place t (range i n)) n (rw length_range at (place_le t (range i n))))
