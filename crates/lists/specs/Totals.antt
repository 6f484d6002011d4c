-- Sums over the places at which something holds, each once. Assumes nothing.
use Rattle.std.specs.Prelude.{ℕ, zero, suc, ◌+◌}

-- the sum of w over those of the k places from i on at which P holds, each once
pub data Total (P : ℕ → Type 0) (w : ℕ → ℕ) : ℕ → ℕ → ℕ → Type 0 where
  none : {i : ℕ} → Total P w i zero zero
  with : {i k s : ℕ} → P i → Total P w (suc i) k s → Total P w i (suc k) (w i + s)
  without : {i k s : ℕ} → ¬ P i → Total P w (suc i) k s → Total P w i (suc k) s
