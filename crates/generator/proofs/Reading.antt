-- The reader accepts each picture made, with the header that was asked for and the lists that were drawn; and block sizes and block counts are
-- judged as 02 says. Assumes nothing.
use mathlib.Core.Path.{◌≡◌, refl, sym, ap, ◌∙◌}
use mathlib.Core.Logic.{◌≢◌, by_cases}
use mathlib.Core.List.{List}
use Prim.Native.Nat.{ℕ, ◌*◌, ◌≤◌}
use native.Mathlib.Omega.{arith}
use native.Mathlib.Nat.{mul-zero, mul-pos, mul-div_right, mul-mod_right}
use native.Mathlib.Decide.{ℕ_discrete}
use borrow.Author.Tests.{ne_eqb}
use lib.ListN.{take, drop}
use lib.Seq.{take_at}
use Rattle.picture.specs.declared.Header.{Header}
use Rattle.picture.specs.Layout.{picture_max, edition1, size_of}
use Rattle.picture.specs.Rules.{Sizes}
use Rattle.picture.specs.Inner.{Known}
use Rattle.picture.proofs.Long.{size_small}
use Rattle.write.specs.Answers.{filled}
use Rattle.write.proofs.Fields.{length_picture}
use Rattle.write.proofs.Trips.{picture_accepted, header_back, picture_back}
use Rattle.generator.specs.Generated.{asked_header, generated}
use Rattle.generator.specs.Rules.{Blocks}
use Rattle.generator.specs.Faults.{generate_fault}
use Rattle.generator.specs.Answers.{generated_picture, generated_bytes, ReadsAsDrawn}
use Rattle.generator.proofs.Judged.{Right, made_right}
use Rattle.generator.proofs.Lists.{drawn_header, drawn_proper}

module _ (seed : ℕ) (h : Header) where
  -- the first bytes of the buffer are the picture, whatever it held
  pub front : (buf : List ℕ) → generate_fault h buf ≡ 0 → take (size_of h) (generated_bytes seed h buf) ≡ generated_picture seed h
  unfolding generated_bytes filled generated_picture
  front buf z = rw z (take_at _ (drop (size_of h) buf) (size_of h) (length_picture h.edition (generated seed h) ∙ ap size_of (sym (drawn_header seed h))))

  -- so equal arguments give equal bytes, in any two buffers
  pub front_same : (buf buf' : List ℕ) → generate_fault h buf ≡ 0 → generate_fault h buf' ≡ 0 → take (size_of h) (generated_bytes seed h buf) ≡ take (size_of h) (generated_bytes seed h buf')
  front_same buf buf' z z' = front buf z ∙ sym (front buf' z')

  reads : h.edition ≡ edition1 → h.near_limit ≡ h.slots → Right h → ReadsAsDrawn seed h (generated_picture seed h)
  unfolding generated_picture
  reads e near r =
      let p = drawn_proper seed h e near r in
      record { accepted = picture_accepted p; header = header_back p ∙ sym (drawn_header seed h); picture = picture_back p }

-- what is made of any arguments is read as it was drawn
pub generated_reads : (seed b blocks d l s : ℕ) (buf : List ℕ) → let h = asked_header b blocks d l s in
    generate_fault h buf ≡ 0 → ReadsAsDrawn seed h (take (size_of h) (generated_bytes seed h buf))
unfolding asked_header
generated_reads seed b blocks d l s buf z =
    let h = asked_header b blocks d l s in
    rw (front seed h buf z) (reads seed h refl refl (made_right h buf z).0)

-- no picture that is made is longer than the longest
pub size_most : (b blocks d l s : ℕ) (buf : List ℕ) → let h = asked_header b blocks d l s in generate_fault h buf ≡ 0 → size_of h ≤ picture_max
unfolding asked_header
size_most b blocks d l s buf z =
    let h = asked_header b blocks d l s in
    let r = (made_right h buf z).0 in
    size_small h (record { known = Known.first; slots = r.sizes.slots_most; counts = r.counts })

-- a refusal leaves the buffer
pub refused_stays : (seed : ℕ) (h : Header) (buf : List ℕ) → generate_fault h buf ≢ 0 → generated_bytes seed h buf ≡ buf
unfolding generated_bytes filled
refused_stays seed h buf n = rw (ne_eqb (generate_fault h buf) 0 n)

-- ---- the rule of 3 by β and block count

module _ (b blocks d l s : ℕ) where
  pub sizes_blocks : Sizes (asked_header b blocks d l s) → Blocks b blocks
  unfolding asked_header
  sizes_blocks k =
      record {
        size_some = k.size_some;
        size_most = k.size_most;
        blocks_some = by_cases (ℕ_discrete blocks 0) (λ z. absurd (omega (arith, k.slots_some, ap (λ (n : ℕ). b * n) z ∙ mul-zero b))) (λ n. omega arith);
        blocks_most = rw (mul-div_right blocks k.size_some) at k.blocks_most;
        slots_most = k.slots_most;
      }

  pub blocks_sizes : Blocks b blocks → Sizes (asked_header b blocks d l s)
  unfolding asked_header
  blocks_sizes k =
      record {
        size_some = k.size_some;
        size_most = k.size_most;
        slots_some = mul-pos k.size_some k.blocks_some;
        slots_most = k.slots_most;
        multiple = mul-mod_right b blocks;
        blocks_most = rw (mul-div_right blocks k.size_some) k.blocks_most;
      }
