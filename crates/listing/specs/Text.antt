-- Text that is put into a buffer. Assumes nothing.
use Rattle.std.specs.Prelude.{List, ◌++◌, ◌≡◌, ℕ, ◌+◌, ◌≤◌, length, take, drop}
use Rattle.listing.specs.declared.Text.{Text}

-- room for the longest line: three words of six bytes, three numbers of eight digits and the end of the line
abbrev pub line_max : ℕ
line_max = 43

-- room for the longest text
abbrev pub text_max : ℕ
text_max = 4096

-- the buffer has room for n bytes more
abbrev pub HasRoom : Text → ℕ → Type 0
HasRoom t n = t.end + n ≤ length t.buf.now

-- a text is put where the buffer has room for it, from byte `end` on: every other byte stays, and so does the buffer itself
pub record Puts (old : Text) (text : List ℕ) (new : Text) : Type 0 where
  pub room : HasRoom old (length text)
  pub ends : new.end ≡ old.end + length text
  pub bytes : new.buf.now ≡ take old.end old.buf.now ++ text ++ drop (old.end + length text) old.buf.now
  pub long : length new.buf.now ≡ length old.buf.now
  pub same : new.buf.ghost_name ≡ old.buf.ghost_name
