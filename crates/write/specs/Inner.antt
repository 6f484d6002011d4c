-- What serves the contracts of inner functions alone: nothing here is promised. Assumes nothing.
use Rattle.std.specs.Prelude.{Bool, List, [], ◌++◌, ◌≡◌, ℕ, ◌+◌, ◌*◌, ◌^◌, ◌≤◌, ◌<◌, length, get_or, drop}
use Rattle.lists.specs.Lists.{sum, first}
use Rattle.picture.specs.declared.Header.{Header}
use Rattle.picture.specs.Layout.{edition_for, slot_widths, endpoint_widths, state_max, slots_at}
use Rattle.write.specs.Columns.{Lists, handed, link_from}
use Rattle.write.specs.Rules.{size_for}
use Rattle.write.specs.Faults.{handed_faults}
use Rattle.write.specs.Answers.{bytes_for}
use Rattle.write.specs.declared.Columns.{Columns}
use Rattle.write.specs.declared.tail.Tail.{Tail}
use Rattle.write.specs.Tails.{LongRoom}

-- ---- judging

-- the header by the first column of each list
unfoldable pub columns_header : Lists → Header
columns_header l =
    record {
      edition = edition_for l.edition;
      block_size = l.block_size;
      slots = length l.states;
      near_limit = l.near_limit;
      endpoints = length l.weights;
      links = length l.links;
      service_links = length l.service_links;
    }

-- the lists whose edition, β and κ stand in a header
unfoldable pub under : Header → Columns → Lists
under h c =
    handed h.edition.number h.block_size h.near_limit c.states.now c.is_near.now c.weights.now c.is_protected.now c.links.now c.service_links.now

-- ---- writing

-- slots fit their fields, and there is room for them behind what is written; the same of endpoints, and of links whose ends have these widths
pub record SlotsFit (from : Tail) (states : List ℕ) (near : List Bool) (buf : List ℕ) : Type 0 where
  pub even : length states ≡ length near
  pub state : (i : ℕ) → i < length states → get_or states i 0 ≤ state_max
  pub room : LongRoom from (length states * sum slot_widths) buf

pub record EndpointsFit (from : Tail) (weights : List ℕ) (protected : List Bool) (buf : List ℕ) : Type 0 where
  pub even : length weights ≡ length protected
  pub room : LongRoom from (length weights * sum endpoint_widths) buf

pub record LinksFit (from : Tail) (a b : ℕ) (pairs : List (List ℕ)) (buf : List ℕ) : Type 0 where
  pub wide : a + b ≤ 32
  pub start : (i : ℕ) → i < length pairs → (link_from (get_or pairs i [])).from < 2 ^ a
  pub end : (i : ℕ) → i < length pairs → (link_from (get_or pairs i [])).to < 2 ^ b
  pub room : LongRoom from (length pairs * (a + b)) buf

-- the numbers of the header fit their fields, and there is room for them
pub record HeaderFits (h : Header) (buf : List ℕ) : Type 0 where
  pub room : slots_at h.edition ≤ length buf * 8
  pub bits : h.edition.location_bits ≤ 12
  pub number : h.edition.number < 2 ^ 4
  pub block_size : h.block_size < 2 ^ 4
  pub slots : h.slots < 2 ^ h.edition.location_bits
  pub near_limit : h.near_limit < 2 ^ h.edition.location_bits
  pub endpoints : h.endpoints < 2 ^ 8
  pub links : h.links < 2 ^ 12
  pub service_links : h.service_links < 2 ^ 12

-- lists without a fault, with their header, and room for their picture
pub record Ready (l : Lists) (h : Header) (buf : List ℕ) : Type 0 where
  pub right : first (handed_faults l) ≡ 0
  pub header : h ≡ columns_header l
  pub room : size_for l ≤ length buf

-- the picture of the lists stands in the front of the buffer
abbrev pub Written : Lists → List ℕ → List ℕ → Type 0
Written l buf out = out ≡ bytes_for l ++ drop (size_for l) buf
