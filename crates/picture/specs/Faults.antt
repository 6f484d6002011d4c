-- The number of a picture's first fault, in the order of document 01, and the answer that reading gives by it: by computation. The laws
-- show that the number is that of the first rule broken. Assumes nothing.
use Rattle.std.specs.Prelude.{Bool, not, ◌&&◌, ◌||◌, List, [], ◌∷◌, ◌++◌, map, ℕ, ◌-◌, ◌*◌, ◌/◌, ◌%◌, eqb, leb, ltb, length}
use Rattle.bits.specs.Bits.{field_at}
use Rattle.lists.specs.Lists.{on, first}
use Rattle.picture.specs.declared.Edition.{Edition}
use Rattle.picture.specs.declared.Header.{Header}
use Rattle.picture.specs.declared.Link.{Link}
use Rattle.picture.specs.Layout.{edition_of, edition_number, blocks_max, endpoints_max, links_max, state_max, least_bytes, header_bytes, end_at, size_of}
use Rattle.picture.specs.Picture.{Picture, header_in, picture_with}

-- 3: β and n are 1 to their limits; n is a multiple of β with n/β at most 60
unfoldable pub sizes_right : Header → Bool
sizes_right h =
    leb 1 h.block_size && (leb h.block_size h.edition.block_size_max && (leb 1 h.slots && (leb h.slots h.edition.slots_max
    && (eqb (h.slots % h.block_size) 0 && leb (h.slots / h.block_size) blocks_max))))

-- 4: D is at most 200; L and S are at most 2000
unfoldable pub counts_right : Header → Bool
counts_right h = leb h.endpoints endpoints_max && (leb h.links links_max && leb h.service_links links_max)

-- 5: a state is none of the three
unfoldable pub state_fault : ℕ → ℕ
state_fault k = on (ltb state_max k) 5

-- 6: an end of a link is above n
unfoldable pub link_fault : ℕ → Link → ℕ
link_fault n l = on (ltb n l.from || ltb n l.to) 6

-- 17: the location of a service link is above n; then 18: its endpoint is 0 or above D
unfoldable pub service_link_fault : ℕ → ℕ → Link → ℕ
service_link_fault n d l = first (on (ltb n l.from) 17 ∷ on (eqb l.to 0 || ltb d l.to) 18 ∷ [])

-- 7: the fill bits up to the byte are zero, and then the picture ends
unfoldable pub end_right : Header → List ℕ → Bool
end_right h bs = eqb (field_at bs (end_at h) (size_of h * 8 - end_at h)) 0 && eqb (length bs) (size_of h)

-- the faults of the lists, each its number or 0: states in order (5), links (6), and then service links (17, 18)
unfoldable pub list_faults : Header → Picture → List ℕ
list_faults h p =
    first (map (λ s. state_fault s.state) p.slots)
    ∷ first (map (link_fault h.slots) p.links)
    ∷ first (map (service_link_fault h.slots h.endpoints) p.service_links)
    ∷ []

-- the faults of the parts after the header: those of the lists, and fill bits or extra bytes (7)
unfoldable pub body_faults : Header → Picture → List ℕ → List ℕ
body_faults h p bs = list_faults h p ++ (on (not (end_right h bs)) 7 ∷ [])

-- all faults in their order: under 7 bytes (1), 2, shorter than the edition's header (1), 3, 4, shorter than the header says (1), and then
-- the parts'
unfoldable pub faults_with : Header → Picture → List ℕ → List ℕ
faults_with h p bs =
    on (ltb (length bs) least_bytes) 1
    ∷ on (not (eqb (edition_number bs) h.edition.number)) 2
    ∷ on (ltb (length bs) (header_bytes h.edition)) 1
    ∷ on (not (sizes_right h)) 3
    ∷ on (not (counts_right h)) 4
    ∷ on (ltb (length bs) (size_of h)) 1
    ∷ body_faults h p bs

-- the number of the first fault by an edition, or 0
abbrev pub fault_in : Edition → List ℕ → ℕ
fault_in e bs =
    let h : Header = header_in e bs in
    first (faults_with h (picture_with h bs) bs)

-- the number of the first fault, or 0 where the picture is accepted
unfoldable pub picture_fault : List ℕ → ℕ
picture_fault bs = fault_in (edition_of bs) bs
