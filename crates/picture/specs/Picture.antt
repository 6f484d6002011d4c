-- The picture as records of lists, and what the bytes say. Assumes nothing.
use Rattle.std.specs.Prelude.{Bool, false, List, map, ℕ, ◌+◌, ◌*◌, eqb}
use Rattle.lists.specs.Lists.{range, item, sum}
use Rattle.picture.specs.declared.Edition.{Edition}
use Rattle.picture.specs.declared.Header.{Header}
use Rattle.picture.specs.declared.Link.{Link}
use Rattle.picture.specs.Layout.{edition_of, header_widths, slot_widths, endpoint_widths, link_widths, service_link_widths, field_in, slots_at, endpoints_at, links_at, service_links_at}

-- a slot: its state (0 held, 1 recoverable, 2 freed), and whether it is near
pub record Slot : Type 0 where
  pub state : ℕ
  pub near : Bool

-- an endpoint (01: cab): its weight, and whether it is protected
pub record Endpoint : Type 0 where
  pub weight : ℕ
  pub protected : Bool

-- β, κ, slots 1 to n, endpoints 1 to D, the L links between locations, and the S service links from a location to an endpoint
pub record Picture : Type 0 where
  pub block_size : ℕ
  pub near_limit : ℕ
  pub slots : List Slot
  pub endpoints : List Endpoint
  pub links : List Link
  pub service_links : List Link

-- ---- what the bytes say

-- the header's numbers, by an edition
unfoldable pub header_in : Edition → List ℕ → Header
header_in e bs =
    record {
      edition = e;
      block_size = field_in bs (header_widths e) 0 1;
      slots = field_in bs (header_widths e) 0 2;
      near_limit = field_in bs (header_widths e) 0 3;
      endpoints = field_in bs (header_widths e) 0 4;
      links = field_in bs (header_widths e) 0 5;
      service_links = field_in bs (header_widths e) 0 6;
    }

-- a slot that starts at bit p
unfoldable pub slot_at : List ℕ → ℕ → Slot
slot_at bs p = record { state = field_in bs slot_widths p 0; near = eqb (field_in bs slot_widths p 1) 1 }

-- an endpoint
unfoldable pub endpoint_at : List ℕ → ℕ → Endpoint
endpoint_at bs p = record { weight = field_in bs endpoint_widths p 0; protected = eqb (field_in bs endpoint_widths p 1) 1 }

-- a link or a service link, whose ends have these widths
unfoldable pub link_at : List ℕ → List ℕ → ℕ → Link
link_at widths bs p = record { from = field_in bs widths p 0; to = field_in bs widths p 1 }

-- k rows of w bits each, the first at bit p
unfoldable pub rows : {A : Type 0} → (ℕ → A) → ℕ → ℕ → ℕ → List A
rows f p w k = map (λ i. f (p + i * w)) (range 0 k)

-- what the bytes say under a header
unfoldable pub picture_with : Header → List ℕ → Picture
picture_with h bs =
    let e : Edition = h.edition in
    record {
      block_size = h.block_size;
      near_limit = h.near_limit;
      slots = rows (slot_at bs) (slots_at e) (sum slot_widths) h.slots;
      endpoints = rows (endpoint_at bs) (endpoints_at h) (sum endpoint_widths) h.endpoints;
      links = rows (link_at (link_widths e) bs) (links_at h) (sum (link_widths e)) h.links;
      service_links = rows (link_at (service_link_widths e) bs) (service_links_at h) (sum (service_link_widths e)) h.service_links;
    }

-- the header of any bytes
unfoldable pub header_of : List ℕ → Header
header_of bs = header_in (edition_of bs) bs

-- the picture of any bytes
unfoldable pub picture_of : List ℕ → Picture
picture_of bs = picture_with (header_of bs) bs

-- ---- parts of a picture by their numbers

-- slot v, counted from 1; there is nothing to hold in any other
unfoldable pub slot_of : Picture → ℕ → Slot
slot_of p v = item p.slots v (record { state = 2; near = false })

-- endpoint c, counted from 1
unfoldable pub endpoint_of : Picture → ℕ → Endpoint
endpoint_of p c = item p.endpoints c (record { weight = 0; protected = false })
