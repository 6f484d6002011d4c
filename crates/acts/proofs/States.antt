-- Laws of setting the states of the slots of a range: what was set reads back, and every other bit stays. Assumes nothing.
use mathlib.Core.Path.{◌≡◌, refl, ◌∙◌, subst}
use mathlib.Core.Logic.{◌⊎◌, inl, inr}
use mathlib.Core.List.{List, [], ◌∷◌}
use Prim.Native.Nat.{ℕ, zero, suc, ◌+◌, ◌*◌, ◌%◌, ◌≤◌, ◌<◌}
use native.Mathlib.Omega.{arith}
use native.Mathlib.Decide.{ℕ_discrete}
use lib.ListN.{length}
use Rattle.bits.specs.Bits.{bit_at, field_at, put_field}
use Rattle.bits.proofs.Reading.{number_ext}
use Rattle.bits.proofs.Writing.{length_put_field, put_field_out, field_put, field_put_other}
use Rattle.lists.specs.Lists.{range, sum}
use Rattle.picture.specs.declared.Edition.{Edition}
use Rattle.picture.specs.Layout.{slot_widths}
use Rattle.acts.specs.Acts.{state_at, put_states}

module _ (e : Edition) (f : ℕ → ℕ) (bs : List ℕ) where
  pub length_put_states : (vs : List ℕ) → length (put_states e f bs vs) ≡ length bs
  unfolding put_states state_at
  length_put_states [] = refl
  length_put_states (zero ∷ vs) = length_put_states vs
  length_put_states (suc i ∷ vs) = length_put_field (put_states e f bs vs) (state_at e i) 2 (f (suc i)) ∙ length_put_states vs

  -- a bit that is none of the states'
  pub bit_beside : (m i k : ℕ) → state_at e (i + k) ≤ length bs * 8
      → ((j : ℕ) → i ≤ j → j < i + k → (m < state_at e j) ⊎ (state_at e j + 2 ≤ m))
      → bit_at (put_states e f bs (range (suc i) k)) m ≡ bit_at bs m
  unfolding put_states range state_at slot_widths sum
  bit_beside m i zero h o = refl
  bit_beside m i (suc k) h o =
      put_field_out (put_states e f bs (range (suc (suc i)) k)) (state_at e i) 2 (f (suc i)) m
      (omega (arith, length_put_states (range (suc (suc i)) k))) (o i (omega arith) (omega arith))
      ∙ bit_beside m (suc i) k (omega arith) (λ j l s. o j (omega arith) (omega arith))

  -- a field that meets none of the states
  pub field_beside : (q u i k : ℕ) → state_at e (i + k) ≤ length bs * 8
      → ((j : ℕ) → i ≤ j → j < i + k → (q + u ≤ state_at e j) ⊎ (state_at e j + 2 ≤ q))
      → field_at (put_states e f bs (range (suc i) k)) q u ≡ field_at bs q u
  unfolding field_at
  field_beside q u i k h o =
      number_ext (λ x. bit_at (put_states e f bs (range (suc i) k)) (q + x)) (λ x. bit_at bs (q + x)) u
      (λ x s. bit_beside (q + x) i k h (λ j l t. beside x j s (o j l t)))
    where
      beside : (x j : ℕ) → x < u → (q + u ≤ state_at e j) ⊎ (state_at e j + 2 ≤ q) → (q + x < state_at e j) ⊎ (state_at e j + 2 ≤ q + x)
      beside x j s (inl l) = inl (omega arith)
      beside x j s (inr l) = inr (omega arith)

  -- the states that were set
  pub field_state : (i k j : ℕ) → state_at e (i + k) ≤ length bs * 8 → i ≤ j → j < i + k → field_at (put_states e f bs (range (suc i) k)) (state_at e j) 2 ≡ f (suc j) % 4
  unfolding put_states range state_at slot_widths sum
  field_state i zero j h l s = absurd (omega arith)
  field_state i (suc k) j h l s = go (ℕ_discrete i j) (λ m. field_state (suc i) k j (omega arith) m (omega arith))
    where
      rest : List ℕ
      rest = put_states e f bs (range (suc (suc i)) k)

      fits : state_at e i + 2 ≤ length rest * 8
      fits = omega (arith, length_put_states (range (suc (suc i)) k))

      go : Dec (i ≡ j) → (suc i ≤ j → field_at rest (state_at e j) 2 ≡ f (suc j) % 4) → field_at (put_field rest (state_at e i) 2 (f (suc i))) (state_at e j) 2 ≡ f (suc j) % 4
      go (yes q) ih = subst (λ (z : ℕ). field_at (put_field rest (state_at e i) 2 (f (suc i))) (state_at e z) 2 ≡ f (suc z) % 4) q (field_put rest (state_at e i) 2 (f (suc i)) fits)
      go (no q) ih =
          field_put_other rest (state_at e i) 2 (f (suc i)) (state_at e j) 2 fits (inr (omega arith))
          ∙ ih (omega arith)
