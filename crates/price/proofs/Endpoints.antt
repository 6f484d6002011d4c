-- What is told of each endpoint, service link by service link from the last. Assumes nothing.
use mathlib.Core.Path.{◌≡◌, refl, sym, ap, ◌∙◌}
use mathlib.Core.List.{List, ◌∷◌}
use Prim.Native.Nat.{ℕ, suc, ◌-◌, ◌≤◌, ◌<◌}
use native.Mathlib.Omega.{arith}
use native.Mathlib.Decide.{ℕ_discrete}
use lib.ListN.{length, get_or, set, drop, replicate, length-set, length-replicate}
use lib.Seq.{get_or-set_same, get_or-set_other, drop-cons}
use Rattle.std.proofs.lemmas.List.{drop_all}
use Rattle.lists.proofs.Picks.{copies_at}
use Rattle.picture.specs.declared.Link.{Link}
use Rattle.picture.specs.Rules.{no_link}
use Rattle.picture.specs.Layout.{endpoints_max}
use Rattle.picture.specs.Picture.{Picture}
use Rattle.price.specs.Inner.{no_feeder, joint, told, jointly, EndpointsTell}
use Rattle.price.proofs.Telling.{jointly_here, jointly_other}

-- what the service links from place i on tell of each endpoint
pub record ToldFrom (k : ℕ → ℕ) (ls : List Link) (feeders : List ℕ) (i : ℕ) : Type 0 where
  pub many : length feeders ≡ suc endpoints_max
  pub same : (c : ℕ) → get_or feeders c no_feeder ≡ jointly k c (drop i ls)

module _ (k : ℕ → ℕ) (ls : List Link) where
  pub telling_begun : (i : ℕ) → length ls ≤ i → ToldFrom k ls (replicate (suc endpoints_max) no_feeder) i
  unfolding jointly
  telling_begun i h = record { many = length-replicate {A = ℕ} (suc endpoints_max) no_feeder; same = λ c. copies_at no_feeder (suc endpoints_max) c ∙ sym (rw (drop_all i ls h) refl) }

  -- the service link before them tells something of its endpoint, and nothing of the others
  pub telling_next : (feeders : List ℕ) (i : ℕ) {l : Link} {x : ℕ} → 1 ≤ i → i ≤ length ls → ToldFrom k ls feeders i → l ≡ get_or ls (i - 1) no_link
      → l.to ≤ endpoints_max → x ≡ joint (k l.from) (get_or feeders l.to no_feeder) → ToldFrom k ls (set feeders l.to x) (i - 1)
  telling_next feeders i {l} {x} s m r e t q = record { many = length-set feeders l.to x ∙ r.many; same = λ c. go c (ℕ_discrete c l.to) }
    where
      longer : drop (i - 1) ls ≡ l ∷ drop i ls
      longer =
          let j : suc (i - 1) ≡ i = omega arith in
          drop-cons ls (i - 1) no_link (omega arith) ∙ ap (λ (y : Link). y ∷ drop (suc (i - 1)) ls) (sym e) ∙ ap (λ (n : ℕ). l ∷ drop n ls) j

      go : (c : ℕ) → Dec (c ≡ l.to) → get_or (set feeders l.to x) c no_feeder ≡ jointly k c (drop (i - 1) ls)
      go c (yes z) =
          rw (longer, z) (get_or-set_same feeders l.to x no_feeder (omega (arith, r.many)) ∙ q ∙ ap (joint (k l.from)) (r.same l.to) ∙ sym (jointly_here k l.to l (drop i ls) refl))
      go c (no n) = rw longer (get_or-set_other feeders l.to c x no_feeder n ∙ r.same c ∙ sym (jointly_other k c l (drop i ls) (λ z. n (sym z))))

-- every service link was looked at
pub telling_ended : (p : Picture) (feeders : List ℕ) (i : ℕ) → i < 1 → ToldFrom (told p) p.service_links feeders i → EndpointsTell p feeders
telling_ended p feeders i z r = record { many = r.many; same = λ c. rw none at r.same c }
  where
    none : i ≡ 0
    none = omega arith
