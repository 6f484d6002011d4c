-- Sums over records: by endpoint, by block, and by place. Assumes nothing.
use mathlib.Core.Path.{◌≡◌, refl, sym, ap, ap₂, ◌∙◌, subst, fun_ext}
use mathlib.Core.Bool.{Bool, ◌&&◌}
use mathlib.Core.List.{List, [], ◌∷◌, map, map-map}
use Prim.Native.Nat.{ℕ, zero, suc, ◌+◌, ◌*◌, ◌≤◌, ◌<◌, zero-le, suc-le-suc}
use native.Mathlib.Omega.{arith}
use native.Mathlib.Nat.{zero-add, suc-mul}
use lib.Dec.{T, eqb, leb, ltb, leb-zero}
use lib.ListN.{length, get_or}
use Rattle.std.proofs.lemmas.Bool.Decides.{nat_tests}
use Rattle.lists.specs.Lists.{range, on, sum}
use Rattle.lists.proofs.Ranges.{range_made}
use Rattle.lists.proofs.Faults.{on_pass, on_le}
use Rattle.lists.proofs.Sums.{total, sum_le}
use Rattle.price.specs.declared.Record.{Record}
use Rattle.price.specs.Traffic.{no_record, traffic}
use Rattle.price.specs.Feeders.{WeightOf}

-- ---- sums over lists

module _ {A : Type 0} where
  -- a sum over the places of a list, which `total` is about, is one over its elements
  places_sum : (d : A) (w : A → ℕ) (l : List A) → sum (map (λ i. w (get_or l i d)) (range 0 (length l))) ≡ sum (map w l)
  places_sum d w l =
      ap sum (sym (map-map w (λ i. get_or l i d) (range 0 (length l))) ∙ ap (map w) (range_made d (λ i. get_or l i d) l (λ i s. refl)))

  -- what is the same of each element has the same sum: a test that every element passes can be left out
  same_sum : (d : A) (v w : A → ℕ) (l : List A) → ((i : ℕ) → i < length l → v (get_or l i d) ≡ w (get_or l i d)) → sum (map v l) ≡ sum (map w l)
  unfolding sum
  same_sum d v w [] h = refl
  same_sum d v w (x ∷ l) h = ap₂ ◌+◌ (h 0 (suc-le-suc zero-le)) (same_sum d v w l (λ i s. h (suc i) (suc-le-suc s)))

  -- the bound of a sum whose elements are at most m: `sum_le` is about numbers of a range
  sum_most : (d : A) (w : A → ℕ) (m : ℕ) (l : List A) → ((i : ℕ) → i < length l → w (get_or l i d) ≤ m) → sum (map w l) ≤ length l * m
  unfolding sum
  sum_most d w m [] h = zero-le
  sum_most d w m (x ∷ l) h = omega (arith, h 0 (suc-le-suc zero-le), sum_most d w m l (λ i s. h (suc i) (suc-le-suc s)), suc-mul (length l) m)

  -- a sum of two numbers for each element is two sums: for one more element in each sum of a range
  sum_both : (v w : A → ℕ) (l : List A) → sum (map (λ x. v x + w x) l) ≡ sum (map v l) + sum (map w l)
  unfolding sum
  sum_both v w [] = refl
  sum_both v w (x ∷ l) = omega (arith, sum_both v w l)

-- a sum over a range in which e alone has a number: what one element gives
sum_one : (w e i k : ℕ) → sum (map (λ c. on (eqb e c) w) (range i k)) ≡ on (leb i e && ltb e (i + k)) w
unfolding sum range on
sum_one w e i zero = grind (arith, nat_tests)
sum_one w e i (suc k) = grind (arith, nat_tests, sum_one w e (suc i) k)

-- the elements of a list by a key
module _ {A : Type 0} (key w : A → ℕ) where
  -- the sums for each key of a range are together the sum of the elements whose key is in the range
  keys_sum : (l : List A) (i k : ℕ)
      → sum (map (λ c. sum (map (λ x. on (eqb (key x) c) (w x)) l)) (range i k)) ≡ sum (map (λ x. on (leb i (key x) && ltb (key x) (i + k)) (w x)) l)
  unfolding sum
  keys_sum [] i k = omega (arith, sum_le (λ c. 0) 0 i k (λ c. zero-le))
  keys_sum (x ∷ l) i k =
      sum_both (λ c. on (eqb (key x) c) (w x)) (λ c. sum (map (λ x. on (eqb (key x) c) (w x)) l)) (range i k)
      ∙ ap₂ ◌+◌ (sum_one (w x) (key x) i k) (keys_sum l i k)

  -- a test of the key for which there is a sum can be asked of the key of each element
  on_keys : (f : ℕ → Bool) (l : List A) (c : ℕ)
      → on (f c) (sum (map (λ x. on (eqb (key x) c) (w x)) l)) ≡ sum (map (λ x. on (eqb (key x) c) (on (f (key x)) (w x))) l)
  unfolding sum on
  on_keys f [] c = grind arith
  on_keys f (x ∷ l) c = grind (arith, nat_tests, on_keys f l c)

-- ---- sums over records

-- what the endpoints that pass a test weigh is what the records with such an endpoint weigh
pub traffic_sum : (rs : List Record) (f : ℕ → Bool) (d : ℕ)
    → ((i : ℕ) → i < length rs → (1 ≤ (get_or rs i no_record).endpoint) × ((get_or rs i no_record).endpoint ≤ d))
    → sum (map (λ c. on (f c) (traffic rs c)) (range 1 d)) ≡ sum (map (λ r. on (f r.endpoint) r.weight) rs)
unfolding traffic
traffic_sum rs f d h =
    ap (λ (g : ℕ → ℕ). sum (map g (range 1 d))) (fun_ext (on_keys (λ r. r.endpoint) (λ r. r.weight) f rs))
    ∙ keys_sum (λ r. r.endpoint) (λ r. on (f r.endpoint) r.weight) rs 1 d
    ∙ same_sum no_record _ _ rs (λ i s. on_pass _ _ (let b = h i s in grind (arith, nat_tests)))

-- it is the weight of the records of whose endpoint P holds, where the test says the same as P
pub record_total : (P : ℕ → Type 0) (f : ℕ → Bool) (rs : List Record) → ((c : ℕ) → T (f c) → P c) → ((c : ℕ) → P c → T (f c))
    → WeightOf rs P (sum (map (λ r. on (f r.endpoint) r.weight) rs))
record_total P f rs y n =
    subst (WeightOf rs P) (places_sum no_record (λ r. on (f r.endpoint) r.weight) rs)
    (total _ (λ i. (get_or rs i no_record).weight) (λ i. f (get_or rs i no_record).endpoint) (λ i. y _) (λ i. n _) 0 (length rs))

-- where g gives each endpoint a number: the sums for the numbers below k are together what the records with such a number weigh
pub blocks_sum : (g : ℕ → ℕ) (rs : List Record) (k : ℕ)
    → sum (map (λ b. sum (map (λ r. on (eqb (g r.endpoint) b) r.weight) rs)) (range 0 k)) ≡ sum (map (λ r. on (ltb (g r.endpoint) k) r.weight) rs)
blocks_sum g rs k = keys_sum (λ r. g r.endpoint) (λ r. r.weight) rs 0 k ∙ simp (leb-zero, zero-add)

-- records of at most m each
pub records_le : (f : ℕ → Bool) (m : ℕ) (rs : List Record) → ((i : ℕ) → i < length rs → (get_or rs i no_record).weight ≤ m)
    → sum (map (λ r. on (f r.endpoint) r.weight) rs) ≤ length rs * m
records_le f m rs h = sum_most no_record (λ r. on (f r.endpoint) r.weight) m rs (λ i s. on_le _ _ m (λ t. h i s))
