-- The links of an accepted picture name only its locations and endpoints. Assumes nothing.
use mathlib.Core.Path.{◌≡◌}
use mathlib.Core.Bool.{◌&&◌}
use mathlib.Core.List.{List}
use Prim.Native.Nat.{ℕ, ◌<◌}
use native.Mathlib.Omega.{arith}
use lib.Dec.{T, eqb, eqb→eq}
use lib.ListN.{length, get_or}
use Rattle.lists.proofs.Tests.{and_T, T_and, eq_T, any_at, at_any}
use Rattle.picture.specs.declared.Link.{Link}
use Rattle.picture.specs.Picture.{header_of, picture_of}
use Rattle.picture.specs.Faults.{picture_fault}
use Rattle.picture.specs.Rules.{no_link}
use Rattle.picture.proofs.Starts.{slots_length, endpoints_length}
use Rattle.picture.proofs.Accepted.{accepted_kept}
use Rattle.network.specs.Words.{slot_count, endpoint_count, joins, Named}

-- ---- a link

-- a link from a to b stands at some place of the list
pub record Joined (ls : List Link) (a b : ℕ) : Type 0 where
  pub at : ℕ
  pub within : at < length ls
  pub from : (get_or ls at no_link).from ≡ a
  pub to : (get_or ls at no_link).to ≡ b

pub joins_at : (ls : List Link) (a b : ℕ) → T (joins ls a b) → Joined ls a b
unfolding joins
joins_at ls a b t =
    let r = any_at no_link (λ l. eqb l.from a && eqb l.to b) ls t in
    let l = get_or ls r.at no_link in
    let s = and_T (eqb l.from a) (eqb l.to b) r.passes in
    record { at = r.at; within = r.within; from = eqb→eq l.from a s.0; to = eqb→eq l.to b s.1 }

pub at_joins : {ls : List Link} {a b : ℕ} → Joined ls a b → T (joins ls a b)
unfolding joins
at_joins {ls} {a} {b} j =
    let l = get_or ls j.at no_link in
    at_any no_link _ ls j.at j.within (T_and (eqb l.from a) (eqb l.to b) (eq_T l.from a j.from) (eq_T l.to b j.to))

-- ---- what links name

module _ (bs : List ℕ) where
  -- the counts are the header's
  pub slots_counted : slot_count (picture_of bs) ≡ (header_of bs).slots
  unfolding slot_count picture_of
  slots_counted = slots_length (header_of bs) bs

  pub endpoints_counted : endpoint_count (picture_of bs) ≡ (header_of bs).endpoints
  unfolding endpoint_count picture_of
  endpoints_counted = endpoints_length (header_of bs) bs

  pub accepted_named : picture_fault bs ≡ 0 → Named (picture_of bs)
  accepted_named z =
      let l = (accepted_kept bs z).links in
      let s = (accepted_kept bs z).service_links in
      record {
        links = λ a b t.
            let j = joins_at (picture_of bs).links a b t in
            (omega (arith, slots_counted, l.from j.at j.within), omega (arith, slots_counted, l.to j.at j.within));
        services = λ a c t.
            let j = joins_at (picture_of bs).service_links a c t in (
              omega (arith, slots_counted, s.location j.at j.within),
              omega (arith, s.endpoint_some j.at j.within),
              omega (arith, endpoints_counted, s.endpoint_most j.at j.within),
            );
      }
