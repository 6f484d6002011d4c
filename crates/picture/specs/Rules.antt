-- The rules of a picture's layout as propositions, with their numbers and in the order of document 01, for service links of 02, C-14. Assumes
-- nothing.
use Rattle.std.specs.Prelude.{List, [], ◌∷◌, ◌++◌, ◌≡◌, ℕ, ◌*◌, ◌/◌, ◌%◌, ◌≤◌, ◌<◌, length, get_or}
use Rattle.bits.specs.Bits.{bit_at}
use Rattle.lists.specs.Rules.{Rule, each_rules}
use Rattle.picture.specs.declared.Header.{Header}
use Rattle.picture.specs.declared.Link.{Link}
use Rattle.picture.specs.Layout.{edition_number, blocks_max, endpoints_max, links_max, state_max, least_bytes, header_bytes, end_at, size_of}
use Rattle.picture.specs.Picture.{Picture, header_of, picture_of, slot_of}

-- "β is 1 to 8" (02, C-18: "β may be 1 to 15"); "n is 1 to 240" (02, C-21: in edition 2 "n is at most 320"), "a multiple of β with n/β at most 60"
pub record Sizes (h : Header) : Type 0 where
  pub size_some : 1 ≤ h.block_size
  pub size_most : h.block_size ≤ h.edition.block_size_max
  pub slots_some : 1 ≤ h.slots
  pub slots_most : h.slots ≤ h.edition.slots_max
  pub multiple : h.slots % h.block_size ≡ 0
  pub blocks_most : h.slots / h.block_size ≤ blocks_max

-- "D is at most 200; L and S are at most 2000"
pub record Counts (h : Header) : Type 0 where
  pub endpoints_most : h.endpoints ≤ endpoints_max
  pub links_most : h.links ≤ links_max
  pub service_links_most : h.service_links ≤ links_max

-- "For each slot 1 to n: state 2 (0 held, 1 recoverable, 2 freed)"
pub record States (n : ℕ) (p : Picture) : Type 0 where
  pub state : (v : ℕ) → 1 ≤ v → v ≤ n → (slot_of p v).state ≤ state_max

-- a link that no list has, for a place past its end
abbrev pub no_link : Link
no_link = record { from = 0; to = 0 }

-- "L links: from 8, to 8, each 0 to n", and 12 bits each in edition 2
pub record Links (n : ℕ) (p : Picture) : Type 0 where
  pub from : (i : ℕ) → i < length p.links → (get_or p.links i no_link).from ≤ n
  pub to : (i : ℕ) → i < length p.links → (get_or p.links i no_link).to ≤ n

-- "S serving links: location 8 (0 to n), cab 8 (1 to D)"; of each one (02, C-14) "17 is a location above n and 18 is a cab of 0 or above D"
unfoldable pub service_link_rules : ℕ → ℕ → Link → List Rule
service_link_rules n d l =
    record { number = 17; holds = l.from ≤ n }
    ∷ record { number = 18; holds = (1 ≤ l.to) × (l.to ≤ d) }
    ∷ []

-- "Zero bits up to the byte, then the end"
pub record Ends (h : Header) (bs : List ℕ) : Type 0 where
  pub fill : (i : ℕ) → end_at h ≤ i → i < size_of h * 8 → bit_at bs i ≡ 0
  pub end : length bs ≡ size_of h

-- the rules of the lists with their numbers, in the order in which they are judged: service links (02, C-14) "one after another, each one's
-- location before its cab"
unfoldable pub list_rules : Header → Picture → List Rule
list_rules h p =
    record { number = 5; holds = States h.slots p }
    ∷ record { number = 6; holds = Links h.slots p }
    ∷ each_rules (service_link_rules h.slots h.endpoints) p.service_links

-- all rules in their order: a header that its edition leaves unfinished "gets 1, after the edition is known" (02, C-21)
unfoldable pub rules_with : Header → Picture → List ℕ → List Rule
rules_with h p bs =
    record { number = 1; holds = least_bytes ≤ length bs }
    ∷ record { number = 2; holds = edition_number bs ≡ h.edition.number }
    ∷ record { number = 1; holds = header_bytes h.edition ≤ length bs }
    ∷ record { number = 3; holds = Sizes h }
    ∷ record { number = 4; holds = Counts h }
    ∷ record { number = 1; holds = size_of h ≤ length bs }
    ∷ (list_rules h p ++ (record { number = 7; holds = Ends h bs } ∷ []))

-- the rules of any bytes: a picture is accepted where all of them hold, and else refused with the number of the first that is broken
unfoldable pub rules : List ℕ → List Rule
rules bs = rules_with (header_of bs) (picture_of bs) bs
