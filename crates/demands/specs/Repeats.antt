-- Repeated links, by what the calls answer and leave. Document 01, "The picture": "A repeated link counts once, and so does a repeated serving
-- link". Assumes nothing.
use Rattle.std.specs.Prelude.{List, ◌≡◌, ℕ}
use Rattle.picture.specs.Layout.{edition_of}
use Rattle.picture.specs.Picture.{picture_of}
use Rattle.picture.specs.Faults.{picture_fault}
use Rattle.network.specs.Repeats.{Repeated}
use Rattle.weigh.specs.Weighing.{weighing}
use Rattle.evidence.specs.Calls.{chosen_bytes, shown_part}
use Rattle.choose.specs.Answers.{choosing}
use Rattle.checker.specs.Answers.{checking}
use Rattle.acts.specs.declared.Act.{Act}
use Rattle.acts.specs.Answers.{acting, act_bytes}

-- what is weighed, chosen, checked, shown and done is the same for both pictures
pub record Alike (bs bs' : List ℕ) : Type 0 where
  -- any block
  pub weighs : (b : ℕ) → weighing bs b ≡ weighing bs' b
  -- choose answers the same, and leaves the same bytes in any buffer
  pub chooses : (buf : List ℕ) → choosing bs buf ≡ choosing bs' buf
  pub leaves : (buf : List ℕ) → chosen_bytes bs buf ≡ chosen_bytes bs' buf
  -- of evidence from anywhere
  pub checks : (ev : List ℕ) → checking bs ev ≡ checking bs' ev
  pub shows : (ev : List ℕ) → shown_part bs ev ≡ shown_part bs' ev
  -- an act answers the same, and the pictures after it again differ in repeats alone
  pub acts : (a : Act) (b : ℕ) → acting a bs b ≡ acting a bs' b
  pub after : (a : Act) (b : ℕ) → Repeated (picture_of (act_bytes a bs b)) (picture_of (act_bytes a bs' b))

-- of any two accepted pictures of one edition that differ in repeats alone
abbrev pub CountsOnce : Type 0
CountsOnce = (bs bs' : List ℕ) → edition_of bs ≡ edition_of bs' → picture_fault bs ≡ 0 → picture_fault bs' ≡ 0 → Repeated (picture_of bs) (picture_of bs') → Alike bs bs'
