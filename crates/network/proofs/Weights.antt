-- Served weight, loss, number of endpoints cut and mark are what the chains say, and weights are small numbers. Assumes nothing.
use mathlib.Core.Path.{◌≡◌, refl, sym, subst}
use mathlib.Core.Bool.{Bool, not, ◌&&◌}
use mathlib.Core.Logic.{◌↔◌, ⊎_elim}
use mathlib.Core.List.{List}
use Prim.Native.Nat.{ℕ, ◌+◌, ◌^◌, ◌≤◌, ◌<◌, zero-le}
use native.Mathlib.Omega.{arith}
use lib.Dec.{T}
use Rattle.lists.specs.Lists.{on}
use Rattle.lists.specs.Totals.{Total, none, with, without}
use Rattle.lists.proofs.Tests.{and_T, T_and}
use Rattle.lists.proofs.Ranges.{any_range, range_any}
use Rattle.lists.proofs.Faults.{on_true, on_pass, on_le}
use Rattle.lists.proofs.Sums.{total, sum_le}
use Rattle.lists.proofs.Picks.{item_inside, sum_split}
use Rattle.bits.proofs.Reading.{field_at_lt}
use Rattle.picture.specs.Layout.{endpoint_widths, weight_max}
use Rattle.picture.specs.Picture.{Picture, Endpoint, header_of, picture_of, endpoint_at, endpoint_of}
use Rattle.picture.specs.Faults.{picture_fault}
use Rattle.picture.proofs.Starts.{field_first, endpoint_row}
use Rattle.picture.proofs.Accepted.{accepted_kept}
use Rattle.network.specs.Words.{endpoint_count, is_held, held_without, weight_of, Served, Cuts, Sum, ServedWeight, Loss, CutCount, LosesProtected, CutsProtected, Named}
use Rattle.network.specs.Tests.{marks, served, cut, cut_protected, sum_where, weighed}
use Rattle.network.proofs.Named.{endpoints_counted}
use Rattle.network.proofs.Service.{marked_served, served_marked, cut_loses, loses_cut}

-- ---- the sums and the mark

module _ {p : Picture} (n : Named p) where
  pub served_weight_lem : (held : ℕ → Bool) → ServedWeight p held (sum_where p (weight_of p) (served p (marks p held)))
  unfolding sum_where
  served_weight_lem held = total (Served p held) (weight_of p) (served p (marks p held)) (marked_served p held) (λ c s. served_marked n s) 1 (endpoint_count p)

  pub cut_sum : (b : ℕ) (w : ℕ → ℕ) → Sum p w (Cuts p b) (sum_where p w (cut p (marks p (is_held p)) (marks p (held_without p b))))
  unfolding sum_where
  cut_sum b w = total (Cuts p b) w (cut p (marks p (is_held p)) (marks p (held_without p b))) (cut_loses n) (λ c k. loses_cut n k) 1 (endpoint_count p)

  pub loss_weight : (b : ℕ) → Loss p b (weighed p b).loss
  unfolding weighed
  loss_weight b = cut_sum b (weight_of p)

  pub cuts_counted : (b : ℕ) → CutCount p b (weighed p b).cuts
  unfolding weighed
  cuts_counted b = cut_sum b (λ _. 1)

  -- a protected endpoint, between any two moments
  pub cut_protected_loses : (earlier later : ℕ → Bool) → T (cut_protected p (marks p earlier) (marks p later)) → LosesProtected p earlier later
  unfolding cut_protected
  cut_protected_loses earlier later t =
      let r = any_range _ 1 (endpoint_count p) t in
      let c = r.number in
      let s = and_T (endpoint_of p c).protected (cut p (marks p earlier) (marks p later) c) r.passes in
      record { endpoint = c; some = r.from; most = omega arith; protected = s.0; cut = cut_loses n c s.1 }

  pub loses_cut_protected : {earlier later : ℕ → Bool} → LosesProtected p earlier later → T (cut_protected p (marks p earlier) (marks p later))
  unfolding cut_protected
  loses_cut_protected {earlier} {later} k =
      let c = k.endpoint in
      let t = T_and (endpoint_of p c).protected (cut p (marks p earlier) (marks p later) c) k.protected (loses_cut n k.cut) in
      range_any _ 1 (endpoint_count p) (record { number = c; from = k.some; below = omega (arith, k.most); passes = t })

  pub mark_protected : (b : ℕ) → (weighed p b).mark ≡ 1 → CutsProtected p b
  unfolding weighed
  mark_protected b e =
      cut_protected_loses (is_held p) (held_without p b) (on_true (cut_protected p (marks p (is_held p)) (marks p (held_without p b))) 1 (omega (arith, e)))

  pub protected_mark : (b : ℕ) → CutsProtected p b → (weighed p b).mark ≡ 1
  unfolding weighed
  protected_mark b k = on_pass (cut_protected p (marks p (is_held p)) (marks p (held_without p b))) 1 (loses_cut_protected k)

-- the sum over what one test picks of what another does, and the rest
pub where_split : (p : Picture) (w : ℕ → ℕ) (f g : ℕ → Bool) → ((c : ℕ) → T (g c) → T (f c)) → sum_where p w g + sum_where p w (λ c. f c && not (g c)) ≡ sum_where p w f
unfolding sum_where
where_split p w f g m = sum_split w f g m 1 (endpoint_count p)

-- a sum over the places at which P holds is one over those at which Q does, where these are the same
module _ {P Q : ℕ → Type 0} {w : ℕ → ℕ} (e : (c : ℕ) → P c ↔ Q c) where
  pub total_same : {i k s : ℕ} → Total P w i k s → Total Q w i k s
  total_same none = none
  total_same (with {i = i} x t) = with ((e i).0 x) (total_same t)
  total_same (without {i = i} n t) = without (λ x. n ((e i).1 x)) (total_same t)

module _ (p : Picture) (b : ℕ) where
  pub mark_le : (weighed p b).mark ≤ 1
  unfolding weighed
  mark_le = on_le _ 1 1 (λ t. omega arith)

  pub weighed_block : (weighed p b).block ≡ b
  unfolding weighed
  weighed_block = refl

-- ---- sizes

module _ (bs : List ℕ) where
  -- a weight is a field of 16 bits
  weight_field : (q : ℕ) → (endpoint_at bs q).weight ≤ weight_max
  unfolding endpoint_at endpoint_widths
  weight_field q = rw field_first (omega (arith, field_at_lt bs q 16))

  -- and 0 where the number is no endpoint's
  pub weight_small : (c : ℕ) → weight_of (picture_of bs) c ≤ weight_max
  unfolding weight_of picture_of endpoint_of endpoint_count
  weight_small c = ⊎_elim inside (λ e. subst (λ (x : Endpoint). x.weight ≤ weight_max) (sym e) zero-le) (item_inside (picture_of bs).endpoints c _)
    where
      inside : (1 ≤ c) × (c ≤ endpoint_count (picture_of bs)) → (endpoint_of (picture_of bs) c).weight ≤ weight_max
      inside h = rw (endpoint_row (header_of bs) bs c h.0 (omega (arith, endpoints_counted bs))) (weight_field _)

  -- at most 200 endpoints: 200 * 65535 < 2 ^ 24
  pub weights_small : picture_fault bs ≡ 0 → (f : ℕ → Bool) → sum_where (picture_of bs) (weight_of (picture_of bs)) f < 2 ^ 24
  unfolding sum_where
  weights_small z f =
      omega (
        arith,
        sum_le (λ c. on (f c) (weight_of (picture_of bs) c)) weight_max 1 (endpoint_count (picture_of bs)) (λ c. on_le (f c) _ weight_max (λ t. weight_small c)),
        endpoints_counted bs,
        (accepted_kept bs z).counts.endpoints_most,
      )
