-- The sections of the candidates, block by block. Assumes nothing.
use mathlib.Core.Path.{◌≡◌, refl, sym, ap₂, ◌∙◌}
use mathlib.Core.Bool.{true, false}
use mathlib.Core.List.{List, [], ◌∷◌, ◌++◌, map}
use Prim.Native.Nat.{ℕ, suc, ◌+◌, ◌*◌, ◌≤◌, ◌<◌}
use native.Mathlib.Omega.{arith}
use native.Mathlib.Nat.{zero-add, suc-mul, mul-le-mul_right}
use native.Mathlib.Numerals.{add-one}
use lib.ListN.{length, length-append, length-map}
use Rattle.std.specs.Prelude.{Option, None}
use Rattle.lists.specs.Lists.{range, filter, flat}
use Rattle.lists.proofs.Growing.{map-append, flat_map_more, filter_hit, filter_miss, filter_grows}
use Rattle.lists.proofs.Scans.{count_hit}
use Rattle.packing.specs.Holding.{Put}
use Rattle.packing.proofs.Putting.{put_none, put_behind, put_same}
use Rattle.picture.specs.declared.Header.{Header}
use Rattle.picture.specs.Inner.{Known}
use Rattle.picture.specs.Picture.{Picture}
use Rattle.network.specs.declared.Cost.{Cost}
use Rattle.network.specs.Words.{slot_count, block_count}
use Rattle.network.specs.Tests.{weighed, is_candidate, candidates}
use Rattle.evidence.specs.Layout.{section_bytes}
use Rattle.evidence.specs.Canonical.{weighings, bettered, bettering, least, section_fields}
use Rattle.evidence.proofs.Places.{sections_whole}
use Rattle.evidence.proofs.Fields.{sections_span}
use Rattle.evidence.proofs.Least.{least_last}
use Rattle.choose.specs.Sections.{Room, SectionDone, Sectioned}

-- ---- the candidates below a block

module _ (p : Picture) where
  -- as they weigh
  pub weighed_below : ℕ → List Cost
  weighed_below b = map (weighed p) (filter (is_candidate p) (range 0 b))

  pub below_hit : (b : ℕ) → is_candidate p b ≡ true → weighed_below (b + 1) ≡ weighed_below b ++ (weighed p b ∷ [])
  unfolding weighed_below
  below_hit b e = rw (filter_hit (is_candidate p) 0 b (rw zero-add e), zero-add, map-append)

  pub below_miss : (b : ℕ) → is_candidate p b ≡ false → weighed_below (b + 1) ≡ weighed_below b
  unfolding weighed_below
  below_miss b e = rw (filter_miss (is_candidate p) 0 b (rw zero-add e))

  pub below_all : weighed_below (block_count p) ≡ weighings p
  unfolding weighed_below weighings candidates
  below_all = refl

  -- one that is met below the last block is not among those before
  pub below_fewer : (b : ℕ) → is_candidate p b ≡ true → b < block_count p → length (weighed_below b) < length (candidates p)
  unfolding weighed_below candidates
  below_fewer b e l =
      omega (
        arith,
        length-map (filter (is_candidate p) (range 0 b)) (weighed p),
        count_hit (is_candidate p) 0 b (rw zero-add e),
        filter_grows (is_candidate p) 0 (b + 1) (block_count p) (omega arith),
      )

-- ---- their sections, and the choice among them

-- the sections of some costs stand from byte `at` on, byte q is behind them, and the choice is that among them
pub record SectionsDone (h : Header) (p : Picture) (at : ℕ) (ws : List Cost) (buf buf' : List ℕ) (q : ℕ) (best : Option Cost) : Type 0 where
  pub behind : q ≡ at + length ws * section_bytes h.edition h.slots
  pub put : Put buf (at * 8) (flat (map (section_fields h.edition p) ws)) buf'
  pub choice : best ≡ least ws

module _ (h : Header) (known : Known h.edition) (p : Picture) (z : slot_count p ≡ h.slots) where
  pub sections_begun : (at : ℕ) (buf : List ℕ) → SectionsDone h p at (weighed_below p 0) buf buf at None
  unfolding weighed_below filter range flat least bettering
  sections_begun at buf = record { behind = omega arith; put = put_none buf (at * 8); choice = refl }

  pub sections_hit : {at b q size : ℕ} {ws : List Cost} {buf mid buf' : List ℕ} {best best' : Option Cost} {w : Cost} → SectionsDone h p at ws buf mid q best
      → SectionDone h.edition p b q mid buf' w → best' ≡ bettered best w → size ≡ section_bytes h.edition h.slots
      → SectionsDone h p at (ws ++ (weighed p b ∷ [])) buf buf' (q + size) best'
  sections_hit {at} {b} {q} {size} {ws} s d f k =
      let bits = rw z at (sections_span h.edition p ws) in
      record {
        behind = rw (length-append, add-one) (omega (arith, s.behind, suc-mul (length ws) (section_bytes h.edition h.slots)));
        put = rw flat_map_more (put_behind (at * 8) _ _ s.put (put_same d.put (omega (arith, s.behind, bits, sections_whole known h.slots (length ws))) refl));
        choice = f ∙ ap₂ bettered s.choice d.cost ∙ sym (least_last ws (weighed p b));
      }

  pub sections_ended : {at q : ℕ} {buf buf' : List ℕ} {best : Option Cost} → SectionsDone h p at (weighings p) buf buf' q best → Sectioned h.edition p at buf buf' best
  sections_ended s = record { put = s.put; choice = s.choice }

  -- where more candidates are to come, the next has room
  pub room_more : {at q : ℕ} {ws : List Cost} {buf buf' : List ℕ} {best : Option Cost} → SectionsDone h p at ws buf buf' q best
      → length ws < length (candidates p) → Room h at (length (candidates p)) buf → Room h q 1 buf'
  room_more {ws = ws} s l o =
      let x = section_bytes h.edition h.slots in
      let m : suc (length ws) * x ≤ length (candidates p) * x = mul-le-mul_right x l in
      record { fits = omega (arith, s.behind, s.put.long, suc-mul (length ws) x, o.fits); low = omega (arith, s.behind, suc-mul (length ws) x, o.low) }
