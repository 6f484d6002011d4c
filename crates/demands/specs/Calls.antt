-- Lists of calls of the acts. Document 02, C-15: "For every list of evict, reload and free calls on an accepted picture, refused ones among
-- them, each protected cab served before the list is served after it. A slot freed once is freed after every longer list too". And C-19, of such
-- lists: "a protected cab with such a chain at the start has one at the end", a chain of held or recoverable slots. Assumes nothing.
use Rattle.std.specs.Prelude.{List, [], ◌∷◌, ◌++◌, ◌≡◌, ℕ, T}
use Rattle.picture.specs.Picture.{header_of, picture_of, slot_of, endpoint_of}
use Rattle.picture.specs.Faults.{picture_fault}
use Rattle.network.specs.Words.{is_held, Served}
use Rattle.acts.specs.declared.Act.{Act}
use Rattle.acts.specs.Acts.{held_or_recoverable}
use Rattle.acts.specs.Answers.{act_bytes}

-- a call of a list: an act, and any number for its block
pub record Call : Type 0 where
  pub act : Act
  pub block : ℕ

-- the picture's bytes after a call, by the definition that the contracts of the acts cite: a refused call leaves them
unfoldable pub call_bytes : List ℕ → Call → List ℕ
call_bytes bs c = act_bytes c.act bs c.block

-- the bytes after a list of calls, each on what the one before it left
unfoldable pub bytes_after : List ℕ → List Call → List ℕ
bytes_after bs [] = bs
bytes_after bs (c ∷ cs) = bytes_after (call_bytes bs c) cs

-- what later bytes keep of earlier ones
pub record Keeps (earlier later : List ℕ) : Type 0 where
  -- they are an accepted picture
  pub accepted : picture_fault later ≡ 0
  -- of the same edition and sizes: β, n, κ, D, L and S
  pub sizes : header_of later ≡ header_of earlier
  -- with the same marks of near slots,
  pub near : (v : ℕ) → (slot_of (picture_of later) v).near ≡ (slot_of (picture_of earlier) v).near
  -- the same weights and marks of protected endpoints,
  pub endpoints : (picture_of later).endpoints ≡ (picture_of earlier).endpoints
  -- the same links and service links
  pub links : (picture_of later).links ≡ (picture_of earlier).links
  pub service_links : (picture_of later).service_links ≡ (picture_of earlier).service_links
  -- "each protected cab served before the list is served after it"
  pub served : (c : ℕ) → T (endpoint_of (picture_of earlier) c).protected → Served (picture_of earlier) (is_held (picture_of earlier)) c
      → Served (picture_of later) (is_held (picture_of later)) c
  -- "a protected cab with such a chain at the start has one at the end"
  pub recoverable : (c : ℕ) → T (endpoint_of (picture_of earlier) c).protected → Served (picture_of earlier) (held_or_recoverable (picture_of earlier)) c
      → Served (picture_of later) (held_or_recoverable (picture_of later)) c
  -- "A slot freed once is freed after every longer list too"
  pub freed : (v : ℕ) → (slot_of (picture_of earlier) v).state ≡ 2 → (slot_of (picture_of later) v).state ≡ 2

-- "This is one statement over the list": the bytes after any calls, and any more behind them, keep what those after the first ones had. Where
-- the first list is empty, that is from the picture that was handed over to the end of a whole list
abbrev pub CallsKeep : Type 0
CallsKeep = (bs : List ℕ) → picture_fault bs ≡ 0 → (calls more : List Call) → Keeps (bytes_after bs calls) (bytes_after bs (calls ++ more))
