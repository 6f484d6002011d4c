-- The first fault, as the code finds it: test by test, and element by element of a list. Assumes nothing.
use mathlib.Core.Path.{◌≡◌, refl, sym, ap, ◌∙◌}
use mathlib.Core.Bool.{Bool, true, false}
use mathlib.Core.Logic.{◌≢◌}
use mathlib.Core.List.{List, ◌∷◌, map}
use Prim.Native.Nat.{ℕ, suc, ◌+◌, ◌≤◌, ◌<◌, zero-le}
use native.Mathlib.Omega.{arith}
use lib.ListN.{length, get_or}
use Rattle.lists.specs.Lists.{on, first}
use Rattle.lists.proofs.Faults.{stop_at, skip_at, Clean, scan_begun, scan_miss, scan_hit, scan_ended}

-- ---- a test tells its number, and then that is what is found; or nothing, and then it is what the later ones tell

pub tells : {b : Bool} {k : ℕ} (l : List ℕ) → b ≡ true → suc k ≡ first (on b (suc k) ∷ l)
tells l e = stop_at l (λ z. absurd (omega arith)) (unfold on in rw e)

pub passes : {b : Bool} (k : ℕ) (l : List ℕ) → b ≡ false → first l ≡ first (on b k ∷ l)
passes k l e = skip_at {x = 0} l refl (unfold on in rw e) refl

-- ---- a scan of a list of n elements, at each of which f tells a fault or 0

-- none of the first i elements has a fault
pub record Scanning {A : Type 0} (f : A → ℕ) (d : A) (l : List A) (n i : ℕ) : Type 0 where
  pub within : i ≤ n
  pub long : length l ≡ n
  pub clean : Clean f d l i

module _ {A : Type 0} {f : A → ℕ} {d : A} {l : List A} {n : ℕ} where
  pub scanning_begun : length l ≡ n → Scanning f d l n 0
  scanning_begun e = record { within = zero-le; long = e; clean = scan_begun f d l }

  -- the element at hand, x, has a fault or none
  pub scanning_hit : {i k : ℕ} {x : A} → Scanning f d l n i → i < n → x ≡ get_or l i d → k ≡ f x → k ≢ 0 → k ≡ first (map f l)
  scanning_hit {i} s h e t m = scan_hit f d l i s.clean (omega (arith, s.long)) (t ∙ ap f e) m

  pub scanning_miss : {i k : ℕ} {x : A} → Scanning f d l n i → i < n → x ≡ get_or l i d → k ≡ f x → k ≡ 0 → Scanning f d l n (i + 1)
  scanning_miss {i} s h e t z = record { within = omega arith; long = s.long; clean = scan_miss f d l i s.clean (ap f (sym e) ∙ sym t ∙ z) }

  pub scanning_ended : {i : ℕ} → Scanning f d l n i → n ≤ i → 0 ≡ first (map f l)
  scanning_ended {i} s h = scan_ended f d l i s.clean (omega (arith, s.long))
