-- Laws of a list of fields put together from parts: what it takes, that it fits, and that bytes hold it. Assumes nothing.
use mathlib.Core.Path.{◌≡◌, sym, ap, ◌∙◌, subst}
use mathlib.Core.List.{List, [], ◌∷◌, ◌++◌, map}
use Prim.Native.Nat.{ℕ, zero, suc, ◌+◌, ◌*◌, ◌<◌, zero-le, suc-le-suc}
use native.Mathlib.Omega.{arith}
use native.Mathlib.Nat.{add_assoc, add-zero, zero-add, not-suc-le-zero, le_of_suc-le-suc, zero-mul, suc-mul}
use lib.ListN.{length, get_or, take}
use lib.Seq.{length-take-le}
use Rattle.bits.proofs.Reading.{field_at_lt}
use Rattle.lists.specs.Lists.{flat}
use Rattle.packing.specs.Packing.{Field}
use Rattle.packing.specs.Holding.{span, Fit, Holds}

-- ---- one list behind another

pub span_append : (xs ys : List Field) → span (xs ++ ys) ≡ span xs + span ys
unfolding span
span_append [] ys = sym (zero-add (span ys))
span_append (f ∷ xs) ys = rw (span_append xs ys, add_assoc)

pub fit_append : (xs ys : List Field) → Fit xs → Fit ys → Fit (xs ++ ys)
unfolding Fit
fit_append [] ys a b = b
fit_append (f ∷ xs) ys a b = (a.0, fit_append xs ys a.1 b)

pub holds_append : (bs : List ℕ) (q : ℕ) (xs ys : List Field) → Holds bs q (xs ++ ys) → Holds bs q xs × Holds bs (q + span xs) ys
unfolding Holds span
holds_append bs q [] ys h = (tt, rw add-zero h)
holds_append bs q (f ∷ xs) ys h =
    let r : Holds bs (q + f.width) xs × Holds bs (q + f.width + span xs) ys = holds_append bs (q + f.width) xs ys h.1 in
    ((h.0, r.0), rw add_assoc at r.1)

pub append_holds : (bs : List ℕ) (q : ℕ) (xs ys : List Field) → Holds bs q xs → Holds bs (q + span xs) ys → Holds bs q (xs ++ ys)
unfolding Holds span
append_holds bs q [] ys a b = rw add-zero at b
append_holds bs q (f ∷ xs) ys a b = (a.0, append_holds bs (q + f.width) xs ys a.1 (rw add_assoc b))

-- a value that is read fits, so fields that are held do
pub holds_fit : (bs : List ℕ) (q : ℕ) (fs : List Field) → Holds bs q fs → Fit fs
unfolding Fit Holds
holds_fit bs q [] h = tt
holds_fit bs q (f ∷ fs) h = (rw (← h.0) (field_at_lt bs q f.width), holds_fit bs (q + f.width) fs h.1)

-- ---- groups of fields one after the other; group i starts behind the groups before it

pub fit_flat : {A : Type 0} (d : A) (g : A → List Field) (rs : List A) → ((i : ℕ) → i < length rs → Fit (g (get_or rs i d))) → Fit (flat (map g rs))
unfolding flat Fit
fit_flat d g [] h = tt
fit_flat d g (r ∷ rs) h = fit_append (g r) (flat (map g rs)) (h 0 (suc-le-suc zero-le)) (fit_flat d g rs (λ i s. h (suc i) (suc-le-suc s)))

pub holds_groups : {A : Type 0} (d : A) (g : A → List Field) (bs : List ℕ) (q : ℕ) (rs : List A) → Holds bs q (flat (map g rs))
    → (i : ℕ) → i < length rs → Holds bs (q + span (flat (map g (take i rs)))) (g (get_or rs i d))
unfolding flat span
holds_groups d g bs q [] h i s = absurd (not-suc-le-zero s)
holds_groups d g bs q (r ∷ rs) h zero s = rw add-zero (holds_append bs q (g r) (flat (map g rs)) h).0
holds_groups d g bs q (r ∷ rs) h (suc i) s =
    rw (span_append (g r) (flat (map g (take i rs))), ← add_assoc)
    (holds_groups d g bs (q + span (g r)) rs (holds_append bs q (g r) (flat (map g rs)) h).1 i (le_of_suc-le-suc s))

-- ---- groups of equal width

pub span_flat : {A : Type 0} (g : A → List Field) (w : ℕ) → ((r : A) → span (g r) ≡ w) → (rs : List A) → span (flat (map g rs)) ≡ length rs * w
unfolding span flat
span_flat g w e [] = sym (zero-mul w)
span_flat g w e (r ∷ rs) = span_append (g r) (flat (map g rs)) ∙ omega (arith, e r, span_flat g w e rs, suc-mul (length rs) w)

-- group i starts at i * w
start : {A : Type 0} (g : A → List Field) (w : ℕ) → ((r : A) → span (g r) ≡ w) → (rs : List A) (i : ℕ) → i < length rs → span (flat (map g (take i rs))) ≡ i * w
start g w e rs i s = span_flat g w e (take i rs) ∙ ap (λ (n : ℕ). n * w) (length-take-le i rs (omega arith))

pub holds_flat : {A : Type 0} (d : A) (g : A → List Field) (w : ℕ) → ((r : A) → span (g r) ≡ w) → (bs : List ℕ) (q : ℕ) (rs : List A)
    → Holds bs q (flat (map g rs)) → (i : ℕ) → i < length rs → Holds bs (q + i * w) (g (get_or rs i d))
holds_flat d g w e bs q rs h i s = rw (start g w e rs i s) at (holds_groups d g bs q rs h i s)

-- the other way
pub flat_holds : {A : Type 0} (d : A) (g : A → List Field) (w : ℕ) → ((r : A) → span (g r) ≡ w) → (bs : List ℕ) (q : ℕ) (rs : List A)
    → ((i : ℕ) → i < length rs → Holds bs (q + i * w) (g (get_or rs i d))) → Holds bs q (flat (map g rs))
unfolding flat Holds
flat_holds d g w e bs q [] h = tt
flat_holds d g w e bs q (r ∷ rs) h =
    append_holds bs q (g r) (flat (map g rs)) (subst (λ (n : ℕ). Holds bs n (g r)) (omega (arith, zero-mul w)) (h 0 (suc-le-suc zero-le)))
    (flat_holds d g w e bs (q + span (g r)) rs
    (λ i s. subst (λ (n : ℕ). Holds bs n (g (get_or rs i d))) (omega (arith, suc-mul i w, e r)) (h (suc i) (suc-le-suc s))))
