-- The picture that draws fill. Document 02, C-13: "From a 64-bit seed (the first state), β, block count, D, L and S, SplitMix64 fills a
-- picture"; C-21: "C-13 stays with edition 1". Assumes nothing.
use Rattle.std.specs.Prelude.{List, map, ℕ, ◌+◌, ◌*◌, ◌%◌, eqb}
use Rattle.lists.specs.Lists.{range}
use Rattle.picture.specs.declared.Header.{Header}
use Rattle.picture.specs.declared.Link.{Link}
use Rattle.picture.specs.Layout.{edition1}
use Rattle.picture.specs.Picture.{Slot, Endpoint, Picture}
use Rattle.draws.specs.Draws.{draw}

-- the header that is asked for, by β, block count, D, L and S: "n is β times the block count, and so is κ"
unfoldable pub asked_header : ℕ → ℕ → ℕ → ℕ → ℕ → Header
asked_header b blocks d l s =
    record { edition = edition1; block_size = b; slots = b * blocks; near_limit = b * blocks; endpoints = d; links = l; service_links = s }

-- k rows of two fields each, of which the first takes draws j + 1 and j + 2: "Fields take draws in layout order"
unfoldable pub drawn_rows : {A : Type 0} → (ℕ → ℕ → A) → ℕ → ℕ → ℕ → List A
drawn_rows row seed j k = map (λ i. row (draw seed (j + i * 2 + 1)) (draw seed (j + i * 2 + 2))) (range 0 k)

-- "state modulo 3, near and protected modulo 2"
unfoldable pub drawn_slot : ℕ → ℕ → Slot
drawn_slot x y = record { state = x % 3; near = eqb (y % 2) 1 }

-- "weight modulo 65,536"
unfoldable pub drawn_endpoint : ℕ → ℕ → Endpoint
drawn_endpoint x y = record { weight = x % 65536; protected = eqb (y % 2) 1 }

-- "locations modulo n + 1"
unfoldable pub drawn_link : ℕ → ℕ → ℕ → Link
drawn_link n x y = record { from = x % (n + 1); to = y % (n + 1) }

-- "and a cab is the draw modulo D, plus 1"
unfoldable pub drawn_service_link : ℕ → ℕ → ℕ → ℕ → Link
drawn_service_link n d x y = record { from = x % (n + 1); to = y % d + 1 }

-- the picture that the draws of a seed fill, under a header
unfoldable pub generated : ℕ → Header → Picture
generated seed h =
    let n : ℕ = h.slots in
    let d : ℕ = h.endpoints in
    record {
      block_size = h.block_size;
      near_limit = h.near_limit;
      slots = drawn_rows drawn_slot seed 0 n;
      endpoints = drawn_rows drawn_endpoint seed (n * 2) d;
      links = drawn_rows (drawn_link n) seed (n * 2 + d * 2) h.links;
      service_links = drawn_rows (drawn_service_link n d) seed (n * 2 + d * 2 + h.links * 2) h.service_links;
    }
