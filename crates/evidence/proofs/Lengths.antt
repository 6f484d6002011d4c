-- How many bits and bytes the parts of the evidence take, and what choose leaves in the buffer. Assumes nothing.
use mathlib.Core.Path.{◌≡◌, refl, ap, ◌∙◌}
use mathlib.Core.Logic.{by_cases}
use mathlib.Core.List.{List}
use Prim.Native.Nat.{ℕ, ◌+◌, ◌*◌, ◌/◌, ◌≤◌, ◌<◌}
use native.Mathlib.Omega.{arith}
use native.Mathlib.Decide.{dec_le}
use native.Mathlib.Nat.{mul-le-mul, mul-le-mul_right, le_refl}
use borrow.Author.Tests.{le-ltb}
use lib.ListN.{length, take, drop}
use lib.Seq.{take_at}
use Rattle.lists.specs.Lists.{first, on, sum}
use Rattle.picture.specs.declared.Edition.{Edition}
use Rattle.picture.specs.Layout.{edition2, edition_number, edition_of, blocks_max}
use Rattle.picture.specs.Inner.{Known}
use Rattle.picture.proofs.Editions.{known_for, widths}
use Rattle.picture.specs.Picture.{picture_of}
use Rattle.picture.specs.Faults.{picture_fault}
use Rattle.network.specs.Words.{slot_count}
use Rattle.network.specs.Tests.{candidates}
use Rattle.evidence.specs.Layout.{node_widths, node_bytes, section_bytes, section_at, forest_at, evidence_bytes, evidence_max}
use Rattle.evidence.specs.Canonical.{evidence_of}
use Rattle.evidence.specs.Calls.{length_for, choose_fault, chosen_bytes}
use Rattle.evidence.proofs.Places.{head_whole, forest_whole, section_bytes_lem, sections_whole, forest_at_lem}
use Rattle.network.proofs.Blocks.{blocks_small}
use Rattle.evidence.proofs.Fields.{slots_small, candidates_within, candidates_few, blocks_whole, length_evidence}

-- the byte behind the head and the first forest
abbrev pub sections_start : Edition → ℕ → ℕ
sections_start e n = 9 + n * node_bytes e

module _ {e : Edition} (known : Known e) where
  -- where the sections end
  pub sections_end : (n c : ℕ) → section_at e n c ≡ (sections_start e n + c * section_bytes e n) * 8
  unfolding section_at
  sections_end n c = omega (arith, head_whole, forest_whole known n, sections_whole known n c)

  pub evidence_bytes_lem : (n c : ℕ) → evidence_bytes e n c ≡ sections_start e n + c * section_bytes e n
  unfolding evidence_bytes
  evidence_bytes_lem n c = omega (arith, sections_end n c)

  -- forest k starts at a whole byte, and evidence for at least k candidates has room for it from there on
  forest_byte : (n k : ℕ) → forest_at e n k ≡ (9 + k * section_bytes e n) * 8
  forest_byte n k = omega (arith, forest_at_lem known n k, head_whole, sections_whole known n k)

  pub forest_starts : (n k : ℕ) → forest_at e n k / 8 * 8 ≡ forest_at e n k
  forest_starts n k = omega (arith, forest_byte n k)

  pub forest_room : (n : ℕ) {k c : ℕ} → k ≤ c → forest_at e n k / 8 + n * node_bytes e ≤ evidence_bytes e n c
  forest_room n {k} {c} l = omega (arith, forest_byte n k, evidence_bytes_lem n c, mul-le-mul_right (section_bytes e n) l)

  -- "The length is 9 + 2n + C(5 + 2n)", and in edition 2 "9 + 3n + C(5 + 3n)": a node takes two bytes or three
  pub evidence_length : (n c : ℕ) → evidence_bytes e n c ≡ 9 + n * node_bytes e + c * (5 + n * node_bytes e)
  evidence_length n c = evidence_bytes_lem n c ∙ ap (λ (x : ℕ). sections_start e n + c * x) (section_bytes_lem known n)

-- more than 300 slots make blocks of six or more, and so at most 53 of them
fewer : (n size blocks : ℕ) → n ≤ edition2.slots_max → blocks * size ≡ n → blocks ≤ blocks_max → 300 < n → blocks ≤ 53
fewer n size blocks most whole few more =
    by_cases (dec_le size 5) (λ small. absurd (omega (arith, mul-le-mul few small)))
    (λ large. let six : 6 ≤ size = omega arith in omega (arith, mul-le-mul (le_refl blocks) six))

-- so much evidence is the longest: at most 300 slots and 60 candidates, or 320 slots and 53 candidates
longest : (x n c : ℕ) → x ≤ n * 3 → n ≤ edition2.slots_max → c ≤ blocks_max → (300 < n → c ≤ 53) → 9 + x + c * (5 + x) ≤ evidence_max
longest x n c each most few more =
    by_cases (dec_le n 300)
    (λ l. let s : 5 + x ≤ 905 = omega arith in omega (arith, mul-le-mul few s))
    (λ m. let s : 5 + x ≤ 965 = omega arith in let f : c ≤ 53 = more (omega arith) in omega (arith, mul-le-mul f s))

pub length_most : (bs : List ℕ) → picture_fault bs ≡ 0 → length_for bs ≤ evidence_max
unfolding length_for node_bytes node_widths sum
length_most bs ok =
    let e = edition_of bs in
    let known = known_for (edition_number bs) in
    let n = slot_count (picture_of bs) in
    let c = length (candidates (picture_of bs)) in
    let within = candidates_within bs ok in
    let three : node_bytes e ≤ 3 = omega (arith, widths known) in
    let longer : 300 < n → c ≤ 53 = λ m. omega (arith, within, fewer n _ _ (slots_small bs ok) (blocks_whole bs ok) (blocks_small bs ok) m) in
    omega (arith, evidence_length known n c, longest (n * node_bytes e) n c (mul-le-mul (le_refl n) three) (slots_small bs ok) (candidates_few bs ok) longer)

-- ---- what choose writes for an accepted picture, where the buffer is long enough

pub choose_takes : (bs buf : List ℕ) → picture_fault bs ≡ 0 → length_for bs ≤ length buf → choose_fault bs buf ≡ 0
unfolding choose_fault first on
choose_takes bs buf ok fits = rw (ok, le-ltb (length buf) (length_for bs) fits) refl

-- the first bytes of the buffer up to the length are the evidence
pub chosen_evidence : (bs buf : List ℕ) → choose_fault bs buf ≡ 0 → take (length_for bs) (chosen_bytes bs buf) ≡ evidence_of bs
unfolding chosen_bytes length_for
chosen_evidence bs buf z = rw z (take_at (evidence_of bs) (drop (length_for bs) buf) (length_for bs) (length_evidence bs))
