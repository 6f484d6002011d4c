-- What all service links to an endpoint tell together: a number where one tells it, and the others tell it too or nothing. Assumes nothing.
use mathlib.Core.Path.{◌≡◌, refl, sym, ap, ◌∙◌}
use mathlib.Core.Bool.{Bool, ◌&&◌}
use mathlib.Core.Logic.{◌≢◌, ◌⊎◌, inl, inr, by_cases}
use mathlib.Core.List.{List, [], ◌∷◌}
use Prim.Native.Nat.{ℕ}
use native.Mathlib.Omega.{arith}
use native.Mathlib.Decide.{ℕ_discrete}
use borrow.Author.Tests.{eq-eqb, ne_eqb}
use lib.Dec.{T, eqb, eqb→eq, eqb_refl}
use Rattle.lists.specs.Lists.{any}
use Rattle.lists.proofs.Tests.{and_T, or_T, T_and, eq_T, T-or-l, T-or-r}
use Rattle.picture.specs.declared.Link.{Link}
use Rattle.network.specs.Words.{joins}
use Rattle.price.specs.Inner.{no_feeder, not_one, joint, jointly}

-- ---- two of them

-- what a and x tell together
data Joint (a x : ℕ) : ℕ → Type 0 where
  other : a ≡ no_feeder → Joint a x x
  one : x ≡ no_feeder → Joint a x a
  same : a ≡ x → Joint a x x
  apart : a ≢ no_feeder → x ≢ no_feeder → a ≢ x → Joint a x not_one

joint_lem : (a x : ℕ) → Joint a x (joint a x)
unfolding joint
joint_lem a x =
    by_cases
    (ℕ_discrete a no_feeder)
    (λ e. rw (eq-eqb a no_feeder e) (other e))
    (λ n. by_cases
    (ℕ_discrete a x)
    (λ e. rw (eq-eqb a x e, ne_eqb a no_feeder n) (same e))
    (λ m. by_cases
    (ℕ_discrete x no_feeder)
    (λ e. rw (ne_eqb a no_feeder n, ne_eqb a x m, eq-eqb x no_feeder e) (one e))
    (λ o. rw (ne_eqb a no_feeder n, ne_eqb a x m, ne_eqb x no_feeder o) (apart n o m))))

-- ---- all of them

module _ (k : ℕ → ℕ) (c : ℕ) where
  -- some service link to the endpoint tells y
  pub data Tells : List Link → ℕ → Type 0 where
    here : {l : Link} {ls : List Link} {y : ℕ} → l.to ≡ c → k l.from ≡ y → Tells (l ∷ ls) y
    there : {l : Link} {ls : List Link} {y : ℕ} → Tells ls y → Tells (l ∷ ls) y

  -- which it does by its location
  pub record TellsFrom (ls : List Link) (y : ℕ) : Type 0 where
    pub location : ℕ
    pub serves : T (joins ls location c)
    pub tells : k location ≡ y

  pub tells_from : {ls : List Link} {y : ℕ} → Tells ls y → TellsFrom ls y
  unfolding joins any
  tells_from (here {l = l} {ls = ls} e t) =
      let f : Link → Bool = λ m. eqb m.from l.from && eqb m.to c in
      record { location = l.from; serves = T-or-l (f l) (any f ls) (T_and (eqb l.from l.from) (eqb l.to c) (eqb_refl l.from) (eq_T l.to c e)); tells = t }
  tells_from (there {l = l} {ls = ls} t) =
      let r = tells_from t in
      let f : Link → Bool = λ m. eqb m.from r.location && eqb m.to c in
      record { location = r.location; serves = T-or-r (f l) (any f ls) r.serves; tells = r.tells }

  pub from_tells : (ls : List Link) (v : ℕ) → T (joins ls v c) → Tells ls (k v)
  unfolding joins any
  from_tells [] v t = absurd t
  from_tells (l ∷ ls) v t = go (or_T (f l) (any f ls) t) (λ s. from_tells ls v s)
    where
      f : Link → Bool
      f m = eqb m.from v && eqb m.to c

      go : T (f l) ⊎ T (any f ls) → (T (any f ls) → Tells ls (k v)) → Tells (l ∷ ls) (k v)
      go (inl s) ih = let q = and_T (eqb l.from v) (eqb l.to c) s in here (eqb→eq l.to c q.1) (ap k (eqb→eq l.from v q.0))
      go (inr s) ih = there (ih s)

  -- the first service link leads to the endpoint, or not
  pub jointly_here : (l : Link) (ls : List Link) → l.to ≡ c → jointly k c (l ∷ ls) ≡ joint (k l.from) (jointly k c ls)
  unfolding jointly
  jointly_here l ls e = rw (eq-eqb l.to c e) refl

  pub jointly_other : (l : Link) (ls : List Link) → l.to ≢ c → jointly k c (l ∷ ls) ≡ jointly k c ls
  unfolding jointly
  jointly_other l ls n = rw (ne_eqb l.to c n) refl

  -- where nothing is told, none of them tells anything
  nothing : {a x s : ℕ} → Joint a x s → s ≡ no_feeder → (a ≡ no_feeder) × (x ≡ no_feeder)
  nothing (other e) z = (e, z)
  nothing (one e) z = (z, e)
  nothing (same e) z = (e ∙ z, z)
  nothing (apart n m o) z = absurd (omega (arith, z))

  told_nothing : {ls : List Link} → jointly k c ls ≡ no_feeder → {y : ℕ} → Tells ls y → y ≡ no_feeder
  told_nothing e (here {l = l} {ls = ls} q t) = sym t ∙ (nothing (joint_lem _ _) (sym (jointly_here l ls q) ∙ e)).0
  told_nothing e (there {l = l} {ls = ls} t) =
      told_nothing (by_cases (ℕ_discrete l.to c) (λ q. (nothing (joint_lem _ _) (sym (jointly_here l ls q) ∙ e)).1) (λ n. sym (jointly_other l ls n) ∙ e)) t

  -- where each tells b or nothing, they tell b or nothing together
  within : {b a x s : ℕ} → Joint a x s → (a ≡ b) ⊎ (a ≡ no_feeder) → (x ≡ b) ⊎ (x ≡ no_feeder) → (s ≡ b) ⊎ (s ≡ no_feeder)
  within (other e) l r = r
  within (one e) l r = l
  within (same e) l r = r
  within (apart n m o) (inl p) (inl q) = absurd (o (p ∙ sym q))
  within (apart n m o) (inl p) (inr q) = absurd (m q)
  within (apart n m o) (inr p) r = absurd (n p)

  told_within : (ls : List Link) {b : ℕ} → ((y : ℕ) → Tells ls y → (y ≡ b) ⊎ (y ≡ no_feeder)) → (jointly k c ls ≡ b) ⊎ (jointly k c ls ≡ no_feeder)
  unfolding jointly
  told_within [] h = inr refl
  told_within (l ∷ ls) {b} h = go (ℕ_discrete l.to c) (told_within ls (λ y t. h y (there t)))
    where
      go : Dec (l.to ≡ c) → (jointly k c ls ≡ b) ⊎ (jointly k c ls ≡ no_feeder) → (jointly k c (l ∷ ls) ≡ b) ⊎ (jointly k c (l ∷ ls) ≡ no_feeder)
      go (yes e) r = rw (jointly_here l ls e) (within (joint_lem _ _) (h _ (here e refl)) r)
      go (no n) r = rw (jointly_other l ls n) r

  -- so b is told where one tells it, and the others tell it too or nothing; and only there
  pub record TellsOne (ls : List Link) (b : ℕ) : Type 0 where
    pub some : Tells ls b
    pub others : (y : ℕ) → Tells ls y → (y ≡ b) ⊎ (y ≡ no_feeder)

  pub one_told : {ls : List Link} {b : ℕ} → b ≢ no_feeder → TellsOne ls b → jointly k c ls ≡ b
  one_told {ls} {b} n t = go (told_within ls t.others)
    where
      go : (jointly k c ls ≡ b) ⊎ (jointly k c ls ≡ no_feeder) → jointly k c ls ≡ b
      go (inl e) = e
      go (inr e) = absurd (n (told_nothing e t.some))

  pub told_one : (ls : List Link) {b : ℕ} → b ≢ no_feeder → b ≢ not_one → jointly k c ls ≡ b → TellsOne ls b
  unfolding jointly
  told_one [] n m e = absurd (n (sym e))
  told_one (l ∷ ls) {b} n m e = go (ℕ_discrete l.to c) (told_one ls n m)
    where
      -- what the first tells comes before what the rest do
      before : {s : ℕ} → l.to ≡ c → Joint (k l.from) (jointly k c ls) s → s ≡ b → (jointly k c ls ≡ b → TellsOne ls b) → TellsOne (l ∷ ls) b
      before q (other a) s ih = record { some = there (ih s).some; others = λ y t. elim t [ here _ r ↦ inr (sym r ∙ a) | there u ↦ (ih s).others y u ] }
      before q (one x) s ih = record { some = here q s; others = λ y t. elim t [ here _ r ↦ inl (sym r ∙ s) | there u ↦ inr (told_nothing x u) ] }
      before q (same x) s ih = record { some = here q (x ∙ s); others = λ y t. elim t [ here _ r ↦ inl (sym r ∙ x ∙ s) | there u ↦ (ih s).others y u ] }
      before q (apart _ _ _) s ih = absurd (m (sym s))

      go : Dec (l.to ≡ c) → (jointly k c ls ≡ b → TellsOne ls b) → TellsOne (l ∷ ls) b
      go (yes q) ih = before q (joint_lem _ _) (sym (jointly_here l ls q) ∙ e) ih
      go (no o) ih =
          let r = ih (sym (jointly_other l ls o) ∙ e) in
          record { some = there r.some; others = λ y t. elim t [ here q _ ↦ absurd (o q) | there u ↦ r.others y u ] }
