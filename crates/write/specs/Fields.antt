-- The fields of a picture in the order of document 01, and the bytes that they pack into. Assumes nothing.
use Rattle.std.specs.Prelude.{List, [], ◌∷◌, ◌++◌, map, ℕ}
use Rattle.lists.specs.Lists.{on, flat}
use Rattle.packing.specs.Packing.{Field, fields_of, packed}
use Rattle.picture.specs.declared.Edition.{Edition}
use Rattle.picture.specs.declared.Header.{Header}
use Rattle.picture.specs.declared.Link.{Link}
use Rattle.picture.specs.Layout.{header_widths, slot_widths, endpoint_widths, link_widths, service_link_widths}
use Rattle.picture.specs.Picture.{Slot, Endpoint, Picture}
use Rattle.picture.specs.Answers.{header_values}
use Rattle.write.specs.Columns.{header_for}

-- the header: edition, β, n, κ, D, L, S
unfoldable pub header_fields : Header → List Field
header_fields h = fields_of (header_widths h.edition) (header_values h)

-- a slot: its state, and 1 where it is near
unfoldable pub slot_fields : Slot → List Field
slot_fields s = fields_of slot_widths (s.state ∷ on s.near 1 ∷ [])

-- an endpoint (01: cab): its weight, and 1 where it is protected
unfoldable pub endpoint_fields : Endpoint → List Field
endpoint_fields c = fields_of endpoint_widths (c.weight ∷ on c.protected 1 ∷ [])

-- a link or a service link, whose ends have these widths
unfoldable pub link_fields : List ℕ → Link → List Field
link_fields widths l = fields_of widths (l.from ∷ l.to ∷ [])

-- the picture: its header, and the rows of its four lists
unfoldable pub picture_fields : Edition → Picture → List Field
picture_fields e p =
    header_fields (header_for e p)
    ++ (flat (map slot_fields p.slots)
    ++ (flat (map endpoint_fields p.endpoints)
    ++ (flat (map (link_fields (link_widths e)) p.links) ++ flat (map (link_fields (service_link_widths e)) p.service_links))))

-- byte for byte, with zero bits up to the last
unfoldable pub picture_bytes : Edition → Picture → List ℕ
picture_bytes e p = packed (picture_fields e p)
