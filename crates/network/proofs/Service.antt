-- Service and cuts as tests are service and cuts by chains. Assumes nothing.
use mathlib.Core.Path.{refl}
use mathlib.Core.Bool.{Bool, false, not, ◌&&◌}
use Prim.Native.Nat.{ℕ}
use lib.Dec.{T, eqb, eqb→eq, T_not, not_T}
use lib.ListN.{get_or}
use Rattle.lists.proofs.Tests.{and_T, T_and, eq_T, any_at, at_any}
use Rattle.graph.proofs.Settling.{marked_reached, reached_marked}
use Rattle.picture.specs.Picture.{Picture}
use Rattle.picture.specs.Rules.{no_link}
use Rattle.network.specs.Words.{slot_count, joins, Served, Loses, Named}
use Rattle.network.specs.Tests.{marks, served, cut}
use Rattle.network.proofs.Named.{joins_at, at_joins}

pub marked_served : (p : Picture) (held : ℕ → Bool) (c : ℕ) → T (served p (marks p held) c) → Served p held c
unfolding served marks
marked_served p held c t =
    let r = any_at no_link (λ l. get_or (marks p held) l.from false && eqb l.to c) p.service_links t in
    let l = get_or p.service_links r.at no_link in
    let s = and_T (get_or (marks p held) l.from false) (eqb l.to c) r.passes in
    record {
      location = l.from;
      serves = at_joins (record { at = r.at; within = r.within; from = refl; to = eqb→eq l.to c s.1 });
      reached = marked_reached (joins p.links) held (slot_count p) l.from s.0;
    }

-- a chain that leaves the locations would not be marked: hence Named
pub served_marked : {p : Picture} {held : ℕ → Bool} {c : ℕ} → Named p → Served p held c → T (served p (marks p held) c)
unfolding served marks
served_marked {p} {held} {c} n s =
    let j = joins_at p.service_links s.location c s.serves in
    let l = get_or p.service_links j.at no_link in
    at_any no_link _ p.service_links j.at j.within
    (T_and (get_or (marks p held) l.from false) (eqb l.to c) (rw j.from (reached_marked (joins p.links) held (slot_count p) n.links s.reached)) (eq_T l.to c j.to))

module _ {p : Picture} (n : Named p) {earlier later : ℕ → Bool} where
  pub cut_loses : (c : ℕ) → T (cut p (marks p earlier) (marks p later) c) → Loses p earlier later c
  unfolding cut
  cut_loses c t =
      let s = and_T (served p (marks p earlier) c) (not (served p (marks p later) c)) t in
      record {
        before = marked_served p earlier c s.0;
        after = λ w. T_not (served p (marks p later) c) s.1 (served_marked n w);
      }

  pub loses_cut : {c : ℕ} → Loses p earlier later c → T (cut p (marks p earlier) (marks p later) c)
  unfolding cut
  loses_cut {c} k =
      T_and (served p (marks p earlier) c) (not (served p (marks p later) c)) (served_marked n k.before)
      (not_T (served p (marks p later) c) (λ t. k.after (marked_served p later c t)))
