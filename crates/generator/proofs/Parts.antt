-- The parts of a picture that draws fill: each has its room behind the one before, and takes the draws that follow. Assumes nothing.
use mathlib.Core.Path.{◌≡◌, refl, sym, ap, ◌∙◌, subst}
use mathlib.Core.Logic.{by_cases}
use mathlib.Core.List.{List, map}
use Prim.Native.Nat.{ℕ, ◌+◌, ◌*◌, ◌≤◌}
use native.Mathlib.Omega.{arith}
use native.Mathlib.Decide.{ℕ_discrete}
use lib.ListN.{length}
use Rattle.lists.specs.Lists.{first, sum, flat}
use Rattle.packing.specs.Packing.{Field}
use Rattle.packing.specs.Holding.{Fit}
use Rattle.picture.specs.declared.Header.{Header}
use Rattle.picture.specs.Layout.{slot_widths, endpoint_widths, link_widths, service_link_widths, slots_at, endpoints_at, links_at, service_links_at}
use Rattle.picture.specs.Layout.{end_at}
use Rattle.picture.specs.Inner.{Known, Limited}
use Rattle.write.specs.Fields.{header_fields, link_fields}
use Rattle.write.specs.Tails.{Follows}
use Rattle.write.proofs.Fields.{header_fits}
use Rattle.write.proofs.Making.{Makes, part_room}
use Rattle.draws.specs.Draws.{state_after}
use Rattle.draws.proofs.States.{state_later}
use Rattle.generator.specs.declared.DrawnField.{DrawnField}
use Rattle.generator.specs.declared.Progress.{Progress}
use Rattle.generator.specs.Generated.{drawn_rows, drawn_link, drawn_service_link, generated}
use Rattle.generator.specs.Inner.{row_fields, Roomy, RowsFit, RowsDrawn, Ready}
use Rattle.generator.proofs.Lists.{drawn_fields, drawn_header, drawn_proper, link_row, service_row}
use Rattle.generator.proofs.Judged.{Right, asked_right}

-- ---- a header that is ready

module _ {h : Header} {buf : List ℕ} (r : Ready h buf) where
  pub ready_right : Right h
  ready_right = asked_right h r.right

  pub ready_limited : Limited h
  ready_limited = record { known = subst Known (sym r.edition) Known.first; slots = ready_right.sizes.slots_most; counts = ready_right.counts }

  pub ready_makes : (seed : ℕ) → Makes h (generated seed h) buf
  ready_makes seed = record { own = drawn_header seed h; limited = ready_limited; room = r.room }

  pub ready_header : ℕ → Fit (header_fields h)
  ready_header seed =
      let p = drawn_proper seed h r.edition r.near ready_right in
      rw (drawn_header seed h) (header_fits (generated seed h) p.known p.sizes p.near_limit_lem p.counts)

-- ---- one part after the other

-- a picture is filled up to a place, by so many draws
pub record Stage (seed j place : ℕ) (g : Progress) : Type 0 where
  pub at : g.tail.at ≡ place
  pub state : g.state ≡ state_after seed j

module _ {seed j place : ℕ} {g : Progress} (s : Stage seed j place g) where
  -- rows that end before the picture does have their room in a buffer that is as long
  pub stage_fits : {h : Header} {buf mid : List ℕ} {a b : DrawnField} {count : ℕ} → Ready h buf → length mid ≡ length buf → a.bits + b.bits ≤ 32
      → (1 ≤ count → Roomy a) → (1 ≤ count → Roomy b) → place + count * (a.bits + b.bits) ≤ end_at h → RowsFit g a b count mid
  stage_fits r same wide first second within =
      record { wide = wide; first = first; second = second; room = part_room (ready_makes r seed) same (omega (arith, s.at, within)) }

  module _ {a b : DrawnField} {count : ℕ} {mid new : List ℕ} {g' : Progress} (d : RowsDrawn g a b count mid new g') where
    -- told by the rows of the list
    pub stage_follows : {A : Type 0} (w : A → List Field) (f : ℕ → ℕ → A) → ((x y : ℕ) → row_fields a b x y ≡ w (f x y))
        → Follows mid g.tail (flat (map w (drawn_rows f seed j count))) new g'.tail
    stage_follows w f e =
        rw (ap (λ (z : ℕ). drawn_rows (row_fields a b) z 0 count) s.state ∙ drawn_fields w f a b e seed j count) at d.follows

    pub stage_next : {j' place' : ℕ} → j + count * 2 ≡ j' → g'.tail.at ≡ place' → Stage seed j' place' g'
    stage_next draws at =
        let later = d.state ∙ ap (λ (z : ℕ). state_after z (count * 2)) s.state ∙ state_later seed j (count * 2) in
        record { at = at; state = later ∙ ap (state_after seed) draws }

-- ---- the four lists

module _ {h : Header} {buf : List ℕ} (r : Ready h buf) where
  -- where the rows of each list end, the next list starts
  pub slots_to : slots_at h.edition + h.slots * 3 ≡ endpoints_at h
  unfolding endpoints_at slot_widths sum
  slots_to = refl

  pub endpoints_to : endpoints_at h + h.endpoints * 17 ≡ links_at h
  unfolding links_at endpoint_widths sum
  endpoints_to = refl

  pub links_to : links_at h + h.links * 16 ≡ service_links_at h
  unfolding service_links_at link_widths sum
  links_to = rw r.edition

  pub services_to : service_links_at h + h.service_links * 16 ≡ end_at h
  unfolding end_at service_link_widths sum
  services_to = rw r.edition

  -- the rows of links and of service links, by the widths of the header's edition
  pub links_row : (x y : ℕ) → row_fields (record { bits = 8; values = h.slots + 1; least = 0 }) (record { bits = 8; values = h.slots + 1; least = 0 }) x y
      ≡ link_fields (link_widths h.edition) (drawn_link h.slots x y)
  unfolding link_widths
  links_row x y = rw r.edition (link_row h.slots x y)

  pub services_row : (x y : ℕ) → row_fields (record { bits = 8; values = h.slots + 1; least = 0 }) (record { bits = 8; values = h.endpoints; least = 1 }) x y
      ≡ link_fields (service_link_widths h.edition) (drawn_service_link h.slots h.endpoints x y)
  unfolding service_link_widths
  services_row x y = rw r.edition (service_row h.slots h.endpoints x y)

  -- a location and an endpoint have their room
  pub location_roomy : Roomy (record { bits = 8; values = h.slots + 1; least = 0 })
  location_roomy = record { some = omega arith; most = let most : h.slots ≤ 240 = rw r.edition at (ready_right r).sizes.slots_most in omega arith }

  pub endpoint_roomy : 1 ≤ h.service_links → Roomy (record { bits = 8; values = h.endpoints; least = 1 })
  endpoint_roomy s =
      record {
        some = by_cases (ℕ_discrete h.endpoints 0) (λ z. absurd (omega (arith, (ready_right r).served z))) (λ n. omega arith);
        most = omega (arith, (ready_right r).counts.endpoints_most);
      }
