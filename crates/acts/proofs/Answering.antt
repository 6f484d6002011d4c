-- The first fault of an act in the order in which it is judged. Assumes nothing.
use mathlib.Core.Path.{◌≡◌, sym, ap, ◌∙◌}
use mathlib.Core.Bool.{Bool, true, false, not}
use mathlib.Core.List.{List, [], ◌∷◌}
use Prim.Native.Nat.{ℕ, ◌≤◌, ◌<◌}
use borrow.Author.Tests.{le-leb, lt-leb}
use Rattle.lists.specs.Lists.{on, first}
use Rattle.lists.proofs.Faults.{first_one}
use Rattle.picture.specs.declared.refusals.Refusal.{Refusal}
use Rattle.picture.specs.declared.refusals.Refusal.TheVariants.{NoBlock, NoChange}
use Rattle.picture.specs.Refusals.{refusal_number}
use Rattle.picture.specs.Picture.{picture_of}
use Rattle.picture.specs.Faults.{picture_fault}
use Rattle.picture.proofs.Refusing.{number_some, refused_first, passed_first}
use Rattle.network.specs.Words.{block_count}
use Rattle.weigh.specs.Weighing.{block_fault}
use Rattle.acts.specs.declared.Act.{Act}
use Rattle.acts.specs.Faults.{changes, cut_fault, near_fault, act_fault}
use Rattle.acts.specs.Answers.{act_bytes}
use Rattle.acts.proofs.Judged.{refused_bytes as refused_stays}

module _ (a : Act) (bs : List ℕ) (b : ℕ) where
  -- ---- the order: picture, 8, 11, 10, 12

  pub faulty_picture : (e : Refusal) → refusal_number e ≡ picture_fault bs → refusal_number e ≡ act_fault a bs b
  unfolding act_fault
  faulty_picture e q = refused_first e _ q

  pub no_block : picture_fault bs ≡ 0 → block_count (picture_of bs) ≤ b → refusal_number NoBlock ≡ act_fault a bs b
  unfolding act_fault block_fault on
  no_block z l = passed_first _ (sym z) (refused_first NoBlock _ (rw (le-leb (block_count (picture_of bs)) b l)))

  -- the block is there
  module _ (z : picture_fault bs ≡ 0) (l : b < block_count (picture_of bs)) where
    past_block : {x : ℕ} → x ≡ first (on (not (changes a (picture_of bs) b)) 11 ∷ cut_fault a (picture_of bs) b ∷ near_fault a (picture_of bs) b ∷ []) → x ≡ act_fault a bs b
    unfolding act_fault block_fault on
    past_block e = passed_first _ (sym z) (passed_first _ (rw (lt-leb (block_count (picture_of bs)) b l)) e)

    pub no_change : changes a (picture_of bs) b ≡ false → refusal_number NoChange ≡ act_fault a bs b
    unfolding on
    no_change f = past_block (refused_first NoChange _ (ap (λ (t : Bool). on (not t) 11) (sym f)))

    -- a slot changes
    module _ (t : changes a (picture_of bs) b ≡ true) where
      past_change : {x : ℕ} → x ≡ first (cut_fault a (picture_of bs) b ∷ near_fault a (picture_of bs) b ∷ []) → x ≡ act_fault a bs b
      unfolding on
      past_change e = past_block (passed_first _ (ap (λ (t : Bool). on (not t) 11) (sym t)) e)

      pub cuts : (e : Refusal) → refusal_number e ≡ cut_fault a (picture_of bs) b → refusal_number e ≡ act_fault a bs b
      cuts e q = past_change (refused_first e _ q)

      pub cuts_none : {x : ℕ} → 0 ≡ cut_fault a (picture_of bs) b → x ≡ near_fault a (picture_of bs) b → x ≡ act_fault a bs b
      cuts_none o e = past_change (passed_first _ o (e ∙ first_one _))

  -- ---- the bytes

  -- any fault: they stay
  pub refused_bytes : (e : Refusal) → refusal_number e ≡ act_fault a bs b → bs ≡ act_bytes a bs b
  refused_bytes e q = sym (refused_stays a bs b (λ z. number_some e (q ∙ z)))
