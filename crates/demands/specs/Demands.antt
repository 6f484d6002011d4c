-- The owner's third demand, sentence by sentence, over the definitions that the contracts of the calls cite. What choose, check and evict
-- answer is said by document 01's number and values. Assumes nothing.
use Rattle.std.specs.Prelude.{List, [], ◌∷◌, ◌≢◌, ◌≡◌, ℕ, ◌+◌, ◌≤◌, length, take, Err}
use Rattle.picture.specs.declared.refusals.Refusal.{Refusal}
use Rattle.picture.specs.Picture.{Picture, picture_of}
use Rattle.picture.specs.Faults.{picture_fault}
use Rattle.network.specs.Words.{is_held, ServedWeight, Loss, CutCount, CutsProtected, Candidate, Admissible}
use Rattle.evidence.specs.Canonical.{evidence_of}
use Rattle.evidence.specs.Contents.{head_in}
use Rattle.evidence.specs.Calls.{length_for, chosen_bytes}
use Rattle.choose.specs.Answers.{choosing, choosing_numbers}
use Rattle.checker.specs.Answers.{checking, checking_numbers}
use Rattle.acts.specs.declared.Act.TheVariants.{Evict}
use Rattle.acts.specs.Answers.{acting, act_bytes, acting_numbers}

-- ---- what the calls answer

-- choose gives the evidence's length
abbrev pub Chooses : List ℕ → List ℕ → Type 0
Chooses bs buf = choosing_numbers (choosing bs buf) ≡ 0 ∷ length_for bs ∷ []

-- check passes: it answers 0, and no refusal
pub record Checks (bs ev : List ℕ) : Type 0 where
  pub number : checking_numbers (checking bs ev) ≡ 0 ∷ []
  pub unrefused : (e : Refusal) → checking bs ev ≢ Err e

-- evicting b is done: it answers 0, and no refusal
pub record Evicts (bs : List ℕ) (b : ℕ) : Type 0 where
  pub number : acting_numbers (acting Evict bs b) ≡ 0 ∷ []
  pub unrefused : (e : Refusal) → acting Evict bs b ≢ Err e

-- ---- what the evidence says

-- "the evidence written is its first bytes up to that length": those of the buffer that choose leaves
unfoldable pub written : List ℕ → List ℕ → List ℕ
written bs buf = take (length_for bs) (chosen_bytes bs buf)

-- "the fields verdict, block and loss at the start of that evidence"
abbrev pub verdict_in : List ℕ → ℕ
verdict_in ev = (head_in ev).verdict

abbrev pub block_in : List ℕ → ℕ
block_in ev = (head_in ev).block

abbrev pub loss_in : List ℕ → ℕ
loss_in ev = (head_in ev).loss

-- ---- the demand

-- a picture's served weight
abbrev pub Serves : Picture → ℕ → Type 0
Serves p w = ServedWeight p (is_held p) w

-- "the served weight afterwards equals the served weight before less the stated loss": both are there, and they differ by the loss
pub record Lowers (before after : Picture) (loss : ℕ) : Type 0 where
  pub weight : ℕ
  pub afterwards : Serves after weight
  pub earlier : Serves before (weight + loss)

-- "every candidate block cuts a served protected cab, which includes having no candidate"
abbrev pub AllCut : Picture → Type 0
AllCut p = (b : ℕ) → Candidate p b → CutsProtected p b

-- "Otherwise": what holds of the block that the evidence names
pub record Names (bs ev : List ℕ) : Type 0 where
  -- "the block named is a candidate that cuts none"
  pub candidate : Candidate (picture_of bs) (block_in ev)
  pub admissible : Admissible (picture_of bs) (block_in ev)
  -- "The stated loss is the weight that this block loses"
  pub loss : Loss (picture_of bs) (block_in ev) (loss_in ev)
  -- "and every other candidate that cuts none loses at least as much weight"
  pub least : (b : ℕ) → Candidate (picture_of bs) b → Admissible (picture_of bs) b → (w : ℕ) → Loss (picture_of bs) b w → loss_in ev ≤ w
  -- 02, C-12: "every other candidate that cuts none and loses equal weight now cuts at least as many cabs"
  pub cuts : ℕ
  pub counted : CutCount (picture_of bs) (block_in ev) cuts
  pub fewest : (b : ℕ) → Candidate (picture_of bs) b → Admissible (picture_of bs) b → Loss (picture_of bs) b (loss_in ev)
      → (k : ℕ) → CutCount (picture_of bs) b k → cuts ≤ k
  -- 01: "the lowest number among equals": of those that lose as much and cut as many
  pub lowest : (b : ℕ) → Candidate (picture_of bs) b → Admissible (picture_of bs) b → Loss (picture_of bs) b (loss_in ev) → CutCount (picture_of bs) b cuts
      → block_in ev ≤ b
  -- "Evicting the block from this picture is done", and the picture afterwards is accepted
  pub evicts : Evicts bs (block_in ev)
  pub accepted : picture_fault (act_bytes Evict bs (block_in ev)) ≡ 0
  pub lowers : Lowers (picture_of bs) (picture_of (act_bytes Evict bs (block_in ev))) (loss_in ev)

-- what holds of the evidence written
pub record Proves (bs ev : List ℕ) : Type 0 where
  -- "choose gives "none" exactly when every candidate block cuts a served protected cab"
  pub none_cuts : verdict_in ev ≡ 0 → AllCut (picture_of bs)
  pub cuts_none : AllCut (picture_of bs) → verdict_in ev ≡ 0
  -- any other verdict is 1
  pub verdict : verdict_in ev ≤ 1
  pub names : verdict_in ev ≢ 0 → Names bs ev
  -- "The evidence written equals, byte for byte, the one that document 01 fixes"
  pub fixed : ev ≡ evidence_of bs
  -- "and it passes the check for this picture"
  pub passes : Checks bs ev
  -- "Whatever other evidence passes for this picture, from any maker, has the same verdict and the same loss"
  pub verdicts : (other : List ℕ) → checking_numbers (checking bs other) ≡ 0 ∷ [] → verdict_in other ≡ verdict_in ev
  pub losses : (other : List ℕ) → checking_numbers (checking bs other) ≡ 0 ∷ [] → loss_in other ≡ loss_in ev
  -- 02, C-12: "and passing evidence agrees on that number too": the blocks that are named cut equally many endpoints
  pub numbers : (other : List ℕ) → checking_numbers (checking bs other) ≡ 0 ∷ []
      → (k l : ℕ) → CutCount (picture_of bs) (block_in other) k → CutCount (picture_of bs) (block_in ev) l → k ≡ l

-- "Suppose a picture is accepted and the buffer is long enough": then choose answers, and all of that holds
abbrev pub ThirdDemand : Type 0
ThirdDemand = (bs buf : List ℕ) → picture_fault bs ≡ 0 → length_for bs ≤ length buf → Chooses bs buf × Proves bs (written bs buf)
