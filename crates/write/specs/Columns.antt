-- The lists as they are handed over, column by column, and the picture that they make. Document 02, C-11: "It takes β, κ, the four lists and
-- a buffer; n, D, L and S are the lists' lengths"; C-21: "The writer is told the edition". Assumes nothing.
use Rattle.std.specs.Prelude.{Bool, ◌≡◌, ℕ, ◌<◌, ◌^◌, length, get_or}
use mathlib.Core.List.{List, [], ◌∷◌, map, zip_with}
use Rattle.picture.specs.declared.Edition.{Edition}
use Rattle.picture.specs.declared.Header.{Header}
use Rattle.picture.specs.declared.Link.{Link}
use Rattle.picture.specs.Layout.{edition_of}
use Rattle.picture.specs.Picture.{Slot, Endpoint, Picture, picture_of}

-- the edition's number, β, κ, the slots and the endpoints by their columns, and the links and the service links as pairs
pub record Lists : Type 0 where
  pub edition : ℕ
  pub block_size : ℕ
  pub near_limit : ℕ
  pub states : List ℕ
  pub near : List Bool
  pub weights : List ℕ
  pub protected : List Bool
  pub links : List (List ℕ)
  pub service_links : List (List ℕ)

-- the same in the order in which the calls take them
unfoldable pub handed : ℕ → ℕ → ℕ → List ℕ → List Bool → List ℕ → List Bool → List (List ℕ) → List (List ℕ) → Lists
handed e b k ss ns ws ps ls vs =
    record { edition = e; block_size = b; near_limit = k; states = ss; near = ns; weights = ws; protected = ps; links = ls; service_links = vs }

-- "weights as 16 bits", and a link as two numbers. κ comes as 16 bits too, and is judged
pub record Typed (l : Lists) : Type 0 where
  pub weight : (i : ℕ) → get_or l.weights i 0 < 2 ^ 16
  pub link : (i : ℕ) → i < length l.links → length (get_or l.links i []) ≡ 2
  pub service_link : (i : ℕ) → i < length l.service_links → length (get_or l.service_links i []) ≡ 2

-- ---- from lists to a picture

unfoldable pub slot_from : ℕ → Bool → Slot
slot_from s b = record { state = s; near = b }

unfoldable pub endpoint_from : ℕ → Bool → Endpoint
endpoint_from w b = record { weight = w; protected = b }

-- a pair is a link from its first number to its second
unfoldable pub link_from : List ℕ → Link
link_from l = record { from = get_or l 0 0; to = get_or l 1 0 }

-- rows are made as far as both columns go: columns of unequal length are refused
unfoldable pub picture_from : Lists → Picture
picture_from l =
    record {
      block_size = l.block_size;
      near_limit = l.near_limit;
      slots = zip_with slot_from l.states l.near;
      endpoints = zip_with endpoint_from l.weights l.protected;
      links = map link_from l.links;
      service_links = map link_from l.service_links;
    }

-- "n, D, L and S are the lists' lengths"
unfoldable pub header_for : Edition → Picture → Header
header_for e p =
    record {
      edition = e;
      block_size = p.block_size;
      slots = length p.slots;
      near_limit = p.near_limit;
      endpoints = length p.endpoints;
      links = length p.links;
      service_links = length p.service_links;
    }

-- ---- from a picture to its lists

unfoldable pub pair_of : Link → List ℕ
pair_of l = l.from ∷ l.to ∷ []

unfoldable pub lists_of : ℕ → Picture → Lists
lists_of e p =
    record {
      edition = e;
      block_size = p.block_size;
      near_limit = p.near_limit;
      states = map (λ s. s.state) p.slots;
      near = map (λ s. s.near) p.slots;
      weights = map (λ c. c.weight) p.endpoints;
      protected = map (λ c. c.protected) p.endpoints;
      links = map pair_of p.links;
      service_links = map pair_of p.service_links;
    }

-- the lists that bytes say, with the number of their edition
unfoldable pub lists_in : List ℕ → Lists
lists_in bs = lists_of (edition_of bs).number (picture_of bs)
