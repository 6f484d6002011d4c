-- Texts written one after the other into a buffer. Assumes nothing.
use mathlib.Core.Path.{◌≡◌, refl, sym, ap, ◌∙◌}
use mathlib.Core.List.{List, [], ◌++◌, append_assoc}
use Prim.Native.Nat.{ℕ, ◌+◌, ◌≤◌}
use native.Mathlib.Omega.{arith}
use native.Mathlib.Nat.{zero-add}
use lib.ListN.{length, take, drop, length-append}
use lib.Seq.{paste, paste-zero, take-length, take-paste, drop-paste, drop-drop, take-append_seam}
use Rattle.listing.specs.declared.Text.{Text}
use Rattle.listing.specs.Text.{Puts}

-- nothing is put yet
pub text_none : (t : Text) → t.end ≤ length t.buf.now → Puts t [] t
text_none t h = record { room = omega arith; ends = omega arith; bytes = paste-zero t.buf.now t.end []; long = refl; same = refl }

module _ {old new : Text} {text : List ℕ} (t : Puts old text new) where
  -- the text is a copy of all its bytes
  copied : new.buf.now ≡ paste old.buf.now old.end text (length text)
  copied = t.bytes ∙ rw (take-length text)

  -- what stands up to the end of the text
  text_front : take new.end new.buf.now ≡ take old.end old.buf.now ++ text
  text_front = rw (t.ends, copied, take-paste old.buf.now old.end text (length text) (omega (arith, t.room)) (omega arith), take-length text)

  -- what stands from k bytes behind the text on
  text_rest : (k : ℕ) → drop (new.end + k) new.buf.now ≡ drop (new.end + k) old.buf.now
  text_rest k =
      let behind : drop new.end new.buf.now ≡ drop new.end old.buf.now =
      rw (t.ends, copied, drop-paste old.buf.now old.end text (length text) (omega (arith, t.room)) (omega arith)) in
      sym (drop-drop k new.end new.buf.now) ∙ ap (drop k) behind ∙ drop-drop k new.end old.buf.now

-- a text, and a second one where it ended
pub text_then : {old mid new : Text} {s t : List ℕ} → Puts old s mid → Puts mid t new → Puts old (s ++ t) new
text_then {old} {mid} {s = s} {t = t} a b =
    let long : old.end + length (s ++ t) ≡ mid.end + length t = omega (arith, length-append s t, a.ends) in
    record {
      room = omega (arith, b.room, a.long);
      ends = b.ends ∙ sym long;
      bytes = rw (long, b.bytes, text_front a, text_rest a (length t)) (rw (append_assoc (take old.end old.buf.now) s t));
      long = b.long ∙ a.long;
      same = b.same ∙ a.same;
    }

-- a text from the start of the buffer on, by another name
pub text_whole : {old new : Text} {text l : List ℕ} → Puts old text new → old.end ≡ 0 → text ≡ l
    → (new.end ≡ length l) × (new.buf.now ≡ l ++ drop (length l) old.buf.now)
text_whole {old} {new} {text} t z e =
    rw (← e) (rw (z, zero-add (length text)) at t.ends, rw (z, zero-add (length text)) at t.bytes)

-- k bytes fill the front of a buffer
pub record Front (l : List ℕ) (k : ℕ) (out : List ℕ) : Type 0 where
  pub within : k ≤ length out
  pub shown : take k out ≡ l
  pub long : k ≡ length (take k out)

pub front : (l rest : List ℕ) {k : ℕ} {out : List ℕ} → k ≡ length l → out ≡ l ++ rest → Front l k out
front l rest e f =
    let s = take-append_seam l rest in
    rw (e, f) (record { within = omega (arith, length-append l rest); shown = s; long = sym (ap length s) })
