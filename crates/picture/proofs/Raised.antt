-- A raised limit of β changes answers that were 3, and no other; a second edition changes answers that were 1 or 2. Assumes nothing.
use mathlib.Core.Path.{◌≡◌, refl, sym, ap, ◌∙◌}
use mathlib.Core.Bool.{Bool, true, false, not, cond}
use mathlib.Core.List.{List, ◌∷◌}
use mathlib.Core.Logic.{◌⊎◌, inl, inr, ⊎_elim, by_cases}
use Prim.Native.Nat.{ℕ, zero, suc, ◌≤◌, ◌<◌}
use native.Mathlib.Omega.{arith}
use native.Mathlib.Decide.{dec_le}
use lib.Dec.{eqb, ltb}
use lib.ListN.{length}
use borrow.Author.Tests.{lt-leb, le-leb, eq-eqb, ne_eqb}
use Rattle.lists.specs.Lists.{on, first}
use Rattle.picture.specs.declared.Edition.{Edition}
use Rattle.std.specs.Prelude.{Result}
use Rattle.picture.specs.declared.Header.{Header}
use Rattle.picture.specs.declared.refusals.Refusal.{Refusal}
use Rattle.picture.specs.Layout.{block_size_max, edition1, edition1_up_to, edition2, edition_for, edition_number, header_widths, link_widths, service_link_widths, least_bytes, slots_at, header_bytes, endpoints_at, links_at, service_links_at, end_at, size_of}
use Rattle.picture.specs.Picture.{header_in, picture_with}
use Rattle.picture.specs.Faults.{sizes_right, counts_right, end_right, list_faults, body_faults, faults_with, fault_in}
use Rattle.picture.specs.Refusals.{refusal_of, answer_of, answer_numbers}
use Rattle.picture.specs.Answers.{reading_in, reading, header_values}
use Rattle.picture.specs.Raised.{answer_in, picture_in, Raised, Joined}

-- ---- a raised limit

-- what is judged before the sizes comes first; else their test tells
third : (a b d : Bool) (l r : List ℕ) → (first (on a 1 ∷ on b 2 ∷ on d 1 ∷ on true 3 ∷ l) ≡ first (on a 1 ∷ on b 2 ∷ on d 1 ∷ r)) ⊎ (first (on a 1 ∷ on b 2 ∷ on d 1 ∷ on true 3 ∷ l) ≡ 3)
unfolding first on
third true b d l r = inl refl
third false true d l r = inl refl
third false false true l r = inl refl
third false false false l r = inr refl

module _ (bs : List ℕ) where
  -- the header while β was at most m
  abbrev header : ℕ → Header
  header m = header_in (edition1_up_to m) bs

  abbrev size : ℕ
  size = (header_in edition1 bs).block_size

  -- nothing that the bytes say has to do with the limit
  lists_same : (m : ℕ) → picture_in (edition1_up_to m) bs ≡ picture_in edition1 bs
  unfolding header_in header_widths picture_with link_widths service_link_widths slots_at endpoints_at links_at service_links_at
  lists_same m = refl

  -- a size above the limit is not right
  above : (m : ℕ) → m < size → sizes_right (header m) ≡ false
  unfolding sizes_right header_in header_widths
  above m l = rw (le-leb 1 size (omega arith), lt-leb _ _ l)

  -- two limits that a size keeps judge alike
  within : (m k : ℕ) → size ≤ m → size ≤ k → sizes_right (header m) ≡ sizes_right (header k)
  unfolding sizes_right header_in header_widths
  within m k l r = rw (le-leb _ _ l, le-leb _ _ r)

  -- the tests before the sizes and the faults behind them have not either
  short : Bool
  short = ltb (length bs) least_bytes

  other : Bool
  other = not (eqb (edition_number bs) edition1.number)

  cut : Bool
  cut = ltb (length bs) (header_bytes edition1)

  later : List ℕ
  later =
      let h : Header = header_in edition1 bs in
      on (not (counts_right h)) 4 ∷ on (ltb (length bs) (size_of h)) 1 ∷ body_faults h (picture_with h bs) bs

  -- the first fault, by whether the sizes are right
  abbrev by : Bool → ℕ
  by right = first (on short 1 ∷ on other 2 ∷ on cut 1 ∷ on (not right) 3 ∷ later)

  faults : (k : ℕ) → fault_in (edition1_up_to k) bs ≡ by (sizes_right (header k))
  unfolding faults_with short other cut later header_in header_widths header_bytes picture_with link_widths service_link_widths slots_at endpoints_at links_at service_links_at end_at size_of counts_right end_right list_faults body_faults
  faults k = refl

  module _ (m : ℕ) (few : m ≤ block_size_max) where
    abbrev old : Edition
    old = edition1_up_to m

    -- the first fault is the same, or it was 3
    fault : (fault_in old bs ≡ fault_in edition1 bs) ⊎ ((fault_in old bs ≡ 3) × (m < size) × (size ≤ block_size_max))
    fault =
        by_cases (dec_le size m)
        (λ l. inl (alike (within m block_size_max l (omega (arith, few)))))
        (λ n. by_cases (dec_le size block_size_max)
        (λ k. let wrong = faults m ∙ ap by (above m (omega arith)) in
        ⊎_elim (λ e. inl (wrong ∙ e ∙ sym (faults block_size_max))) (λ e. inr (wrong ∙ e, omega arith, k)) (third short other cut later _))
        (λ k. inl (alike (above m (omega arith) ∙ sym (above block_size_max (omega arith))))))
      where
        alike : sizes_right (header m) ≡ sizes_right (header block_size_max) → fault_in old bs ≡ fault_in edition1 bs
        alike e = faults m ∙ ap by e ∙ sym (faults block_size_max)

    -- the answer by the number of the first fault: its values have nothing to do with the limit
    abbrev by_number : ℕ → List ℕ
    by_number k = answer_numbers header_values (answer_of k (header_in edition1 bs))

    answered : answer_in old bs ≡ by_number (fault_in old bs)
    unfolding answer_of answer_numbers header_values header_in header_widths
    answered = go (fault_in old bs)
      where
        go : (k : ℕ) → answer_numbers header_values (answer_of k (header m)) ≡ by_number k
        go zero = refl
        go (suc k) = refl

    pub raised : Raised m bs
    unfolding answer_of answer_numbers refusal_of
    raised =
        record {
          accepted = λ z. ⊎_elim (λ e. answered ∙ ap by_number e) (λ r. absurd (omega (arith, z, r.0))) fault;
          lists = lists_same m;
          answer = ⊎_elim (λ e. inl (answered ∙ ap by_number e)) (λ r. inr (answered ∙ ap by_number r.0, r.1, r.2)) fault;
        }

-- what was read while β was at most 8, by 01
pub raised_from_eight : (bs : List ℕ) → Raised 8 bs
raised_from_eight bs = raised bs 8 (omega arith)

-- ---- a second edition

-- the number of the edition is the second test
second : (a : Bool) (l : List ℕ) → (first (on a 1 ∷ on true 2 ∷ l) ≡ 1) ⊎ (first (on a 1 ∷ on true 2 ∷ l) ≡ 2)
unfolding first on
second true l = inl refl
second false l = inr refl

pub joined : (bs : List ℕ) → Joined bs
unfolding reading edition_for faults_with header_in
joined bs = record { other = λ n. ap by_edition (ap pick (ne_eqb _ _ n)); second = λ e. ap by_edition (ap pick (eq-eqb _ _ e)); refused = refused }
  where
    by_edition : Edition → Result Header Refusal
    by_edition e = reading_in e bs

    pick : Bool → Edition
    pick b = cond b edition2 edition1

    refused : edition_number bs ≡ 2 → (fault_in edition1 bs ≡ 1) ⊎ (fault_in edition1 bs ≡ 2)
    refused e = rw (ne_eqb (edition_number bs) 1 (λ z. absurd (omega (arith, e)))) (second _ _)
