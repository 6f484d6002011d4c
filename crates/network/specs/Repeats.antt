-- Repeated links. Document 01, "The picture": "A repeated link counts once, and so does a repeated serving link". The laws say what that
-- means for two pictures that differ in repeats alone. Assumes nothing.
use Rattle.std.specs.Prelude.{List, ◌∷◌, ◌++◌, ◌≡◌, T}
use Rattle.picture.specs.declared.Link.{Link}
use Rattle.picture.specs.Picture.{Picture}
use Rattle.network.specs.Words.{joins}

-- the second list is the first with further copies, each anywhere, of links that are there already
pub data Repeats (ls : List Link) : List Link → Type 0 where
  same : Repeats ls ls
  again : (xs : List Link) (l : Link) (ys : List Link) → T (joins (xs ++ ys) l.from l.to) → Repeats ls (xs ++ ys) → Repeats ls (xs ++ (l ∷ ys))

-- the second picture is the first with repeated links and repeated service links, and all else the same
pub record Repeated (p q : Picture) : Type 0 where
  pub block_size : p.block_size ≡ q.block_size
  pub near_limit : p.near_limit ≡ q.near_limit
  pub slots : p.slots ≡ q.slots
  pub endpoints : p.endpoints ≡ q.endpoints
  pub links : Repeats p.links q.links
  pub service_links : Repeats p.service_links q.service_links
