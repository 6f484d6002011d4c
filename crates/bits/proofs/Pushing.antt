-- A field behind what is written: byte by byte, and what is left is held. Assumes nothing.
use mathlib.Core.Path.{◌≡◌, refl, sym, ap, ap₂, ◌∙◌}
use mathlib.Core.List.{List, ◌++◌}
use Rattle.std.proofs.Common.{append_assoc}
use Rattle.std.proofs.lemmas.List.Edits.{paste_all, sets-eq}
use Rattle.std.proofs.lemmas.Slice.{put_mid-paste}
use Prim.Native.Nat.{ℕ, zero, suc, ◌+◌, ◌-◌, ◌*◌, ◌/◌, ◌%◌, ◌^◌, ◌≤◌, ◌<◌}
use native.Mathlib.Omega.{arith}
use native.Mathlib.Nat.{mod-lt, mod-eq_of_lt, div-one, pow-suc}
use native.Mathlib.Numerals.{add-one}
use lib.ListN.{length, get_or, set, take, drop, length-set}
use lib.Pow.{pow_pos, pow-add, shr-shr, mod-pow-add, high, low}
use Rattle.std.specs.Int.{byte_at, bytes_high_first}
use Rattle.std.proofs.Math.Seq.{sets}
use Rattle.std.proofs.lemmas.Grind.{common_steps}
use borrow.Rule.Slice.PartMut.{put_mid}
use Rattle.bits.specs.Bits.{set_bit, put_field}
use Rattle.bits.specs.Pushing.{flushed, Pushed}
use Rattle.bits.proofs.Writing.{patched, length_put_field, put_field_zero, put_field_join, put_field_byte}

-- only the w low digits are written
put_field_low : (bs : List ℕ) (p w v u : ℕ) → v % 2 ^ w ≡ u % 2 ^ w → put_field bs p w v ≡ put_field bs p w u
unfolding put_field
put_field_low bs p zero v u e = refl
put_field_low bs p (suc w) v u e =
    let split : v / 2 % 2 ^ w * 2 + v % 2 ≡ u / 2 % 2 ^ w * 2 + u % 2 = sym (digits v) ∙ e ∙ digits u in
    ap₂ (λ (z : List ℕ) (x : ℕ). set_bit z (p + w) x) (put_field_low bs p w (v / 2) (u / 2) (omega arith)) (omega arith)
  where
    digits : (x : ℕ) → x % 2 ^ suc w ≡ x / 2 % 2 ^ w * 2 + x % 2
    digits x = ap (λ (k : ℕ). x % 2 ^ k) (sym (add-one w)) ∙ mod-pow-add x w 1

-- eight bits at a byte's place are that byte
put_field_store : (bs : List ℕ) (k v : ℕ) → k < length bs → get_or bs k 0 < 256 → put_field bs (k * 8) 8 v ≡ set bs k (v % 256)
unfolding patched
put_field_store bs k v room byte =
    let place : k * 8 / 8 ≡ k = omega arith in
    let whole : 8 - k * 8 % 8 - 8 ≡ 0 = omega arith in
    let digits : get_or bs k 0 - get_or bs k 0 / 2 ^ 0 % 2 ^ 8 * 2 ^ 0 + v % 2 ^ 8 * 2 ^ 0 ≡ v % 256 = omega arith in
    put_field_byte bs (k * 8) 8 v (omega arith) (omega arith)
    ∙ ap₂ (λ (i e : ℕ). set bs i (patched (get_or bs i 0) e 8 v)) place whole ∙ ap (set bs k) digits

-- ---- byte by byte

-- left digits are still to be stored, the next of them at byte k
pub record Pushing (old : List ℕ) (p w all : ℕ) (new : List ℕ) (left k : ℕ) : Type 0 where
  pub within : left ≤ p % 8 + w
  pub place : k * 8 + left ≡ p + w
  pub bytes : (j : ℕ) → get_or new j 0 < 256
  pub done : new ≡ put_field old (p / 8 * 8) (p % 8 + w - left) (all / 2 ^ left)

module _ {old : List ℕ} {p w all : ℕ} where
  pub push_begun : ((j : ℕ) → get_or old j 0 < 256) → Pushing old p w all old (p % 8 + w) (p / 8)
  push_begun b =
      let none : p % 8 + w - (p % 8 + w) ≡ 0 = omega arith in
      record { within = omega arith; place = omega arith; bytes = b; done = sym (ap (λ (d : ℕ). put_field old (p / 8 * 8) d (all / 2 ^ (p % 8 + w))) none ∙ put_field_zero old (p / 8 * 8) _) }

  pub push_next : {s : List ℕ} {left k : ℕ} → Pushing old p w all s left k → 8 ≤ left → k < length s → Pushing old p w all (set s k (all / 2 ^ (left - 8) % 256)) (left - 8) (k + 1)
  push_next {s} {left} {k} i h room =
      let q = p / 8 * 8 in
      let d = p % 8 + w - left in
      let x = all / 2 ^ (left - 8) in
      let eight : left - 8 + 8 ≡ left = omega arith in
      let digits : all / 2 ^ left ≡ x / 2 ^ 8 = ap (λ (n : ℕ). all / 2 ^ n) (sym eight) ∙ sym (shr-shr all (left - 8) 8) in
      let place : k * 8 ≡ q + d = omega (arith, i.place, i.within) in
      let more : d + 8 ≡ p % 8 + w - (left - 8) = omega (arith, i.within) in
      record {
        within = omega (arith, i.within);
        place = omega (arith, i.place);
        bytes = λ j. grind (arith, common_steps, i.bytes j);
        done =
            sym (put_field_store s k x room (i.bytes k)) ∙ ap₂ (λ (z : List ℕ) (n : ℕ). put_field z n 8 x) (i.done ∙ ap (put_field old q d) digits) place
            ∙ sym (put_field_join old q d 8 x) ∙ ap (λ (n : ℕ). put_field old q n x) more;
      }

  pub push_ended : {s : List ℕ} {left k held v rest : ℕ} → Pushing old p w all s left k → left < 8 → v < 2 ^ w → all ≡ held * 2 ^ w + v
      → rest ≡ all % 2 ^ left → Pushed old p held w v s rest
  unfolding flushed
  push_ended {s} {left} {k} {held} {v} {rest} i h small e f =
      let q = p / 8 * 8 in
      let d = p % 8 + w - left in
      let byte : (p + w) / 8 * 8 ≡ q + d = omega (arith, i.place, i.within) in
      let last : (p + w) % 8 ≡ left = omega (arith, i.place) in
      let all_left : d + left ≡ p % 8 + w = omega (arith, i.within) in
      let start : q + p % 8 ≡ p = omega arith in
      let kept : rest % 2 ^ left ≡ all % 2 ^ left = ap (λ (n : ℕ). n % 2 ^ left) f ∙ mod-eq_of_lt (mod-lt all (pow_pos left)) in
      let first : all / 2 ^ w ≡ held = ap (λ (n : ℕ). n / 2 ^ w) e ∙ high held w small in
      let second : all % 2 ^ w ≡ v % 2 ^ w = ap (λ (n : ℕ). n % 2 ^ w) e ∙ low held w small ∙ sym (mod-eq_of_lt small) in
      record {
        same =
            ap₂ (λ (x y : ℕ). put_field s x y rest) byte last ∙ put_field_low s (q + d) left rest all kept ∙ ap (λ (z : List ℕ). put_field z (q + d) left all) i.done
            ∙ sym (put_field_join old q d left all) ∙ ap (λ (n : ℕ). put_field old q n all) all_left ∙ put_field_join old q (p % 8) w all
            ∙ ap₂ (λ (x n : ℕ). put_field (put_field old q (p % 8) x) n w all) first start ∙ put_field_low (put_field old q (p % 8) held) p w all v second;
        small = rw (last, f) (mod-lt all (pow_pos left));
      }

pub pushing_long : {old new : List ℕ} {p w all left k : ℕ} → Pushing old p w all new left k → length new ≡ length old
pushing_long {old} i = ap length i.done ∙ length_put_field old _ _ _

-- ---- whole bytes

of_256 : (c : ℕ) → 256 ^ c ≡ 2 ^ (c * 8)
of_256 zero = refl
of_256 (suc c) = let e : suc c * 8 ≡ c * 8 + 8 = omega arith in rw (pow-suc, of_256 c, e, pow-add 2 (c * 8) 8)

-- byte c of a number, counted from the lowest
byte_digits : (c v : ℕ) → byte_at c v ≡ v / 2 ^ (c * 8) % 256
byte_digits zero v = ap (λ (x : ℕ). x % 256) (sym (div-one v))
byte_digits (suc c) v = ap (λ (x : ℕ). v / x % 256) (of_256 (suc c))

length_bytes : (c v : ℕ) → length (bytes_high_first c v) ≡ c
length_bytes zero v = refl
length_bytes (suc c) v = ap suc (length_bytes c v)

-- a field of c whole bytes, from byte k on
put_field_bytes : (c : ℕ) (bs : List ℕ) (k v : ℕ) → ((j : ℕ) → get_or bs j 0 < 256) → k + c ≤ length bs → put_field bs (k * 8) (c * 8) v ≡ sets bs k (bytes_high_first c v)
put_field_bytes zero bs k v small h = put_field_zero bs (k * 8) v
put_field_bytes (suc c) bs k v small h =
    let width : suc c * 8 ≡ 8 + c * 8 = omega arith in
    let place : k * 8 + 8 ≡ suc k * 8 = omega arith in
    let room : k < length bs = omega arith in
    let byte : byte_at c v < 256 = rw byte_digits (omega arith) in
    let first : put_field bs (k * 8) 8 (v / 2 ^ (c * 8)) ≡ set bs k (byte_at c v) = put_field_store bs k (v / 2 ^ (c * 8)) room (small k) ∙ ap (set bs k) (sym (byte_digits c v)) in
    ap (λ (w : ℕ). put_field bs (k * 8) w v) width ∙ put_field_join bs (k * 8) 8 (c * 8) v
    ∙ ap₂ (λ (z : List ℕ) (p : ℕ). put_field z p (c * 8) v) first place
    ∙ put_field_bytes c (set bs k (byte_at c v)) (suc k) v (λ j. grind (arith, common_steps, small j)) (omega (arith, length-set bs k (byte_at c v)))

-- the bytes that are copied to a slice's part
pub bytes_copied : (bs ys : List ℕ) (k n c v : ℕ) → ((j : ℕ) → get_or bs j 0 < 256) → k + c ≤ length bs → n ≡ c → ys ≡ bytes_high_first c v → put_mid k n bs ys ≡ put_field bs (k * 8) (c * 8) v
bytes_copied bs ys k n c v small h e f =
    let zs : List ℕ = bytes_high_first c v in
    let long : length zs ≡ c = length_bytes c v in
    put_mid-paste k n bs ys zs c f (sym e) (sym long) ∙ paste_all bs k zs c (sym long) ∙ sym (append_assoc (take k bs) zs (drop (k + c) bs))
    ∙ ap (λ (m : ℕ). take k bs ++ zs ++ drop (k + m) bs) (sym long) ∙ sym (sets-eq zs bs k (omega (arith, long))) ∙ sym (put_field_bytes c bs k v small h)

-- the same of bytes of any number that is the field's
pub bytes_taken : (bs ys : List ℕ) (k n c : ℕ) {x v : ℕ} → ((j : ℕ) → get_or bs j 0 < 256) → k + c ≤ length bs → n ≡ c → ys ≡ bytes_high_first c x → x ≡ v
    → put_mid k n bs ys ≡ put_field bs (k * 8) (c * 8) v
bytes_taken bs ys k n c {x} small h e f same = bytes_copied bs ys k n c x small h e f ∙ ap (put_field bs (k * 8) (c * 8)) same

-- the bytes keep their number
pub flushed_long : (bs : List ℕ) (p held : ℕ) → length (flushed bs p held) ≡ length bs
unfolding flushed
flushed_long bs p held = length_put_field bs (p / 8 * 8) (p % 8) held

pub pushed_long : {bs out : List ℕ} {p held w v rest : ℕ} → Pushed bs p held w v out rest → length out ≡ length bs
pushed_long {bs} {out} {p} {held} {w} {v} {rest} e =
    sym (flushed_long out (p + w) rest) ∙ ap length e.same ∙ length_put_field (flushed bs p held) p w v ∙ flushed_long bs p held

-- at a whole byte nothing is held
pub flushed_whole : (bs : List ℕ) (p held : ℕ) → p % 8 ≡ 0 → flushed bs p held ≡ bs
unfolding flushed
flushed_whole bs p held e = ap (λ (n : ℕ). put_field bs (p / 8 * 8) n held) e ∙ put_field_zero bs (p / 8 * 8) held
