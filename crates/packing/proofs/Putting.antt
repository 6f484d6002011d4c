-- Fields written one after the other, in bytes that are otherwise as they were. Assumes nothing.
use mathlib.Core.Path.{◌≡◌, refl, sym, ap, ◌∙◌}
use mathlib.Core.Logic.{inl, inr}
use mathlib.Core.List.{List, [], ◌∷◌, ◌++◌, map}
use Prim.Native.Nat.{ℕ, ◌+◌, ◌*◌, ◌/◌, ◌%◌, ◌^◌, ◌≤◌, ◌<◌}
use native.Mathlib.Omega.{arith}
use native.Mathlib.Numerals.{add-one}
use lib.ListN.{length, get_or, take}
use lib.Seq.{take_all, take-suc, length-take-le}
use lib.Pow.{pow-add, high, low}
use lib.Arith.{digits_lt}
use Rattle.bits.specs.Bits.{field_at, put_field}
use Rattle.bits.proofs.Reading.{field_at_lt, field_at_join}
use Rattle.bits.proofs.Writing.{length_put_field, put_field_out}
use Rattle.lists.specs.Lists.{flat}
use Rattle.lists.proofs.Growing.{flat_map_more}
use Rattle.packing.specs.Packing.{Field, fields_of}
use Rattle.packing.specs.Holding.{span, Holds, Put}
use Rattle.packing.proofs.Fields.{span_append, span_flat, append_holds}
use Rattle.packing.proofs.Written.{holds_ext, put_holds}

-- nothing is written yet
pub put_none : (bs : List ℕ) (q : ℕ) → Put bs q [] bs
unfolding Holds
put_none bs q = record { long = refl; holds = tt; before = λ i l. refl; after = λ i l. refl }

-- a field of bits
pub put_one : (bs : List ℕ) (q : ℕ) (f : Field) → f.value < 2 ^ f.width → q + f.width ≤ length bs * 8 → Put bs q (f ∷ []) (put_field bs q f.width f.value)
unfolding Holds span
put_one bs q f small room =
    record {
      long = length_put_field bs q f.width f.value;
      holds = (put_holds bs q f small room, tt);
      before = λ i l. put_field_out bs q f.width f.value i room (inl l);
      after = λ i l. put_field_out bs q f.width f.value i room (inr (omega arith));
    }

-- two adjacent fields, written as one of their joint width
pub both_small : (a b : ℕ) {x y : ℕ} → x < 2 ^ a → y < 2 ^ b → x * 2 ^ b + y < 2 ^ (a + b)
both_small a b first second = rw (pow-add 2 a b) (digits_lt first second)

pub put_both : (bs : List ℕ) (q a b x y : ℕ) → x < 2 ^ a → y < 2 ^ b → q + (a + b) ≤ length bs * 8
    → Put bs q (fields_of (a ∷ b ∷ []) (x ∷ y ∷ [])) (put_field bs q (a + b) (x * 2 ^ b + y))
unfolding Holds span fields_of
put_both bs q a b x y first second room =
    let p = put_one bs q (record { width = a + b; value = x * 2 ^ b + y }) (both_small a b first second) room in
    let out = put_field bs q (a + b) (x * 2 ^ b + y) in
    let joined = sym (field_at_join out q a b) ∙ p.holds.0 in
    let rest = field_at_lt out (q + a) b in
    record {
      long = p.long;
      holds = (
        sym (high (field_at out q a) b rest) ∙ ap (λ (v : ℕ). v / 2 ^ b) joined ∙ high x b second,
        (sym (low (field_at out q a) b rest) ∙ ap (λ (v : ℕ). v % 2 ^ b) joined ∙ low x b second, tt),
      );
      before = p.before;
      after = λ i l. p.after i (omega arith);
    }

-- more fields behind those that were written
pub put_behind : {old mid new : List ℕ} (q : ℕ) (xs ys : List Field) → Put old q xs mid → Put mid (q + span xs) ys new → Put old q (xs ++ ys) new
put_behind {old} {mid} {new} q xs ys a b =
    record {
      long = b.long ∙ a.long;
      holds = append_holds new q xs ys (holds_ext mid new q xs (λ i l. sym (b.before (q + i) (omega arith))) a.holds) b.holds;
      before = λ i l. b.before i (omega arith) ∙ a.before i l;
      after = λ i l. b.after i (omega (arith, span_append xs ys)) ∙ a.after i (omega (arith, span_append xs ys));
    }

-- fields before those that were written
pub put_ahead : {old mid new : List ℕ} (q : ℕ) (xs ys : List Field) → Put old (q + span xs) ys mid → Put mid q xs new → Put old q (xs ++ ys) new
put_ahead {old} {mid} {new} q xs ys a b =
    record {
      long = b.long ∙ a.long;
      holds = append_holds new q xs ys b.holds (holds_ext mid new (q + span xs) ys (λ i l. sym (b.after (q + span xs + i) (omega arith))) a.holds);
      before = λ i l. b.before i l ∙ a.before i (omega arith);
      after = λ i l. b.after i (omega (arith, span_append xs ys)) ∙ a.after i (omega (arith, span_append xs ys));
    }

-- the same fields by other names
pub put_same : {old new : List ℕ} {q p : ℕ} {xs ys : List Field} → Put old q xs new → q ≡ p → xs ≡ ys → Put old p ys new
put_same {old} {new} a e f = rw (← e, ← f) a

-- ---- fields written one by one

-- fields are put from bit q on where there is room for them
abbrev pub Puts : List ℕ → ℕ → List Field → List ℕ → Type 0
Puts old q fs new = q + span fs ≤ length old * 8 → Put old q fs new

pub puts_none : {bs : List ℕ} {q : ℕ} → Puts bs q [] bs
puts_none room = put_none _ _

-- a field, and then the rest behind it
pub puts_next : {old mid new : List ℕ} {p q w v : ℕ} {fs : List Field} → v < 2 ^ w → mid ≡ put_field old p w v → p ≡ q → Puts mid (q + w) fs new
    → Puts old q (record { width = w; value = v } ∷ fs) new
unfolding span
puts_next {old} {mid} {new} {p} {q} {w} {v} {fs} small e s rest room =
    let f : Field = record { width = w; value = v } in
    let made : mid ≡ put_field old q w v = e ∙ ap (λ (k : ℕ). put_field old k w v) s in
    let long : length mid ≡ length old = ap length made ∙ length_put_field old q w v in
    put_behind q (f ∷ []) fs (rw made (put_one old q f small (omega arith))) (put_same (rest (omega arith)) (omega arith) refl)

-- ---- groups of equal width, written one after the other

module _ {A : Type 0} (d : A) (g : A → List Field) (w : ℕ) (wide : (r : A) → span (g r) ≡ w) (rs : List A) where
  pub groups_begun : (bs : List ℕ) (q : ℕ) → Put bs q (flat (map g (take 0 rs))) bs
  unfolding flat
  groups_begun = put_none

  pub groups_next : {old mid new : List ℕ} (q i : ℕ) → i < length rs → Put old q (flat (map g (take i rs))) mid → Put mid (q + i * w) (g (get_or rs i d)) new
      → Put old q (flat (map g (take (i + 1) rs))) new
  groups_next {old} {mid} {new} q i l a b =
      let first = flat (map g (take i rs)) in
      let long : span first ≡ i * w = span_flat g w wide (take i rs) ∙ ap (λ (n : ℕ). n * w) (length-take-le i rs (omega arith)) in
      rw (add-one, take-suc rs i d l, flat_map_more g (take i rs) (get_or rs i d)) (put_behind q first (g (get_or rs i d)) a (put_same b (omega arith) refl))

  pub groups_ended : {old new : List ℕ} (q i : ℕ) → length rs ≤ i → Put old q (flat (map g (take i rs))) new → Put old q (flat (map g rs)) new
  groups_ended {old} {new} q i l a = rw (take_all i rs l) at a
