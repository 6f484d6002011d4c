-- The layout of a picture: the widths of its fields in their order, where each part starts, and its limits. Assumes nothing.
use Rattle.std.specs.Prelude.{cond, List, [], ◌∷◌, ℕ, ◌+◌, ◌*◌, ◌/◌, eqb, get_or, take}
use Rattle.bits.specs.Bits.{field_at}
use Rattle.lists.specs.Lists.{sum}
use Rattle.picture.specs.declared.Edition.{Edition}
use Rattle.picture.specs.declared.Header.{Header}
use Rattle.picture.specs.declared.State.{State}
use Rattle.picture.specs.declared.State.TheVariants.{Held, Recoverable, Freed}

-- ---- editions: the number; the width of n, of κ and of a location; the largest β and the largest n

-- "β may be 1 to 15" (02, C-18)
abbrev pub block_size_max : ℕ
block_size_max = 15

-- edition 1, with blocks of at most m slots
abbrev pub edition1_up_to : ℕ → Edition
edition1_up_to m = record { number = 1; location_bits = 8; block_size_max = m; slots_max = 240 }

abbrev pub edition1 : Edition
edition1 = edition1_up_to block_size_max

-- edition 2 (02, C-21: "Location numbers beyond a byte")
abbrev pub edition2 : Edition
edition2 = record { number = 2; location_bits = 12; block_size_max = block_size_max; slots_max = 320 }

-- the edition of this number. There are two, and what says another number is judged by the first, and refused
unfoldable pub edition_for : ℕ → Edition
edition_for k = cond (eqb k 2) edition2 edition1

-- the number of the edition that bytes say, in their first field
abbrev pub edition_bits : ℕ
edition_bits = 4

unfoldable pub edition_number : List ℕ → ℕ
edition_number bs = field_at bs 0 edition_bits

-- the edition by which bytes are read: their own
abbrev pub edition_of : List ℕ → Edition
edition_of bs = edition_for (edition_number bs)

-- ---- widths, in the order of the fields

-- header: edition, β, n, κ, D, L, S
unfoldable pub header_widths : Edition → List ℕ
header_widths e = edition_bits ∷ 4 ∷ e.location_bits ∷ e.location_bits ∷ 8 ∷ 12 ∷ 12 ∷ []

-- a slot: state, near
abbrev pub state_bits : ℕ
state_bits = 2

unfoldable pub slot_widths : List ℕ
slot_widths = state_bits ∷ 1 ∷ []

-- an endpoint (01: cab): weight, protected
unfoldable pub endpoint_widths : List ℕ
endpoint_widths = 16 ∷ 1 ∷ []

-- a link: from, to
unfoldable pub link_widths : Edition → List ℕ
link_widths e = e.location_bits ∷ e.location_bits ∷ []

-- a service link (01: serving link): location, endpoint
unfoldable pub service_link_widths : Edition → List ℕ
service_link_widths e = e.location_bits ∷ 8 ∷ []

-- field k of the fields with these widths that start at bit p, without gaps
unfoldable pub field_in : List ℕ → List ℕ → ℕ → ℕ → ℕ
field_in bs widths p k = field_at bs (p + sum (take k widths)) (get_or widths k 0)

-- ---- limits

-- n/β is at most 60
abbrev pub blocks_max : ℕ
blocks_max = 60

-- D is at most 200
abbrev pub endpoints_max : ℕ
endpoints_max = 200

-- L and S are at most 2000
abbrev pub links_max : ℕ
links_max = 2000

-- the longest picture, in bytes: one of edition 2
abbrev pub picture_max : ℕ
picture_max = 11553

-- a state is 0 (held), 1 (recoverable) or 2 (freed)
abbrev pub state_number : State → ℕ
state_number Held = 0
state_number Recoverable = 1
state_number Freed = 2

abbrev pub state_max : ℕ
state_max = 2

-- a weight is a number of 16 bits
abbrev pub weight_max : ℕ
weight_max = 65535

-- ---- where each part starts, in bits, and the size in bytes

-- under 7 bytes is too short for any edition's header
abbrev pub least_bytes : ℕ
least_bytes = 7

-- the slots follow the header
unfoldable pub slots_at : Edition → ℕ
slots_at e = sum (header_widths e)

-- the header in bytes: whole ones in both editions
unfoldable pub header_bytes : Edition → ℕ
header_bytes e = slots_at e / 8

-- then the endpoints
unfoldable pub endpoints_at : Header → ℕ
endpoints_at h = slots_at h.edition + h.slots * sum slot_widths

-- the links
unfoldable pub links_at : Header → ℕ
links_at h = endpoints_at h + h.endpoints * sum endpoint_widths

-- the service links
unfoldable pub service_links_at : Header → ℕ
service_links_at h = links_at h + h.links * sum (link_widths h.edition)

-- where the last of them ends
unfoldable pub end_at : Header → ℕ
end_at h = service_links_at h + h.service_links * sum (service_link_widths h.edition)

-- the bytes that the header asks for, the bits rounded up
unfoldable pub size_of : Header → ℕ
size_of h = (end_at h + 7) / 8
