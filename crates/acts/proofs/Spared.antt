-- An act that spares the protected endpoints leaves those served that were served, over what is held and over what is held or recoverable. Assumes
-- nothing.
use mathlib.Core.Path.{◌≡◌, sym, subst}
use mathlib.Core.Bool.{Bool}
use mathlib.Core.Logic.{by_cases}
use Prim.Native.Nat.{ℕ}
use lib.Dec.{T}
use Rattle.lists.proofs.Tests.{T?, T-or-l}
use Rattle.picture.specs.Picture.{Picture, endpoint_of}
use Rattle.network.specs.Words.{is_held, without_block, Served, Named}
use Rattle.network.specs.Tests.{marks, served}
use Rattle.network.proofs.Service.{marked_served, served_marked}
use Rattle.network.proofs.Evicting.{served_more}
use Rattle.acts.specs.declared.Act.{Act}
use Rattle.acts.specs.declared.Act.TheVariants.{Evict, Reload, Free}
use Rattle.acts.specs.Acts.{held_or_recoverable, act_on}
use Rattle.acts.specs.Rules.{CutsOver, Spares}
use Rattle.acts.proofs.Evicted.{evicted_held, freed_held}
use Rattle.acts.proofs.Reloaded.{reloaded_held}
use Rattle.acts.proofs.Recoverable.{evict_frees_nothing, reload_frees_nothing, recoverable_same, freed_away}

module _ (p : Picture) (b c : ℕ) where
  -- an act changes states alone: locations that serve an endpoint where they are held do so after it
  acted_serves : (a : Act) {less more : ℕ → Bool} → ((v : ℕ) → T (less v) → T (more v)) → Served p less c → Served (act_on a p b) more c
  unfolding act_on
  acted_serves a m s = let t = served_more m s in record { location = t.location; serves = t.serves; reached = t.reached }

  module _ (n : Named p) (guarded : T (endpoint_of p c).protected) where
    -- a protected endpoint that these locations serve and that keeps a chain without the block is served without the block
    spared_without : {held : ℕ → Bool} → ¬ CutsOver p held b → Served p held c → Served p (without_block p held b) c
    spared_without {held} s before =
        by_cases (T? (served p (marks p (without_block p held b)) c)) (marked_served p (without_block p held b) c)
        (λ m.
        let own = n.services before.location c before.serves in
        absurd (s (record { endpoint = c; some = own.1; most = own.2; protected = guarded; cut = record { before = before; after = λ t. m (served_marked n t) } })))

    -- and so after an act that leaves those locations
    spared_after : (a : Act) {held more : ℕ → Bool} → ((v : ℕ) → more v ≡ without_block p held b v) → ¬ CutsOver p held b → Served p held c → Served (act_on a p b) more c
    spared_after a e s before = acted_serves a (λ v t. subst T (sym (e v)) t) (spared_without s before)

    -- one law for any act
    pub spared_serves : (a : Act) → Spares a p b → Served p (is_held p) c → Served (act_on a p b) (is_held (act_on a p b)) c
    spared_serves Evict s = spared_after Evict (evicted_held p b) s
    spared_serves Reload s = acted_serves Reload (λ v t. subst T (sym (reloaded_held p b v)) (T-or-l (is_held p v) _ t))
    spared_serves Free s = spared_after Free (freed_held p b) s.0

    -- and over what is held or recoverable
    pub spared_recoverable : (a : Act) → Spares a p b → Served p (held_or_recoverable p) c → Served (act_on a p b) (held_or_recoverable (act_on a p b)) c
    spared_recoverable Evict s = acted_serves Evict (λ v t. subst T (sym (recoverable_same p b evict_frees_nothing v)) t)
    spared_recoverable Reload s = acted_serves Reload (λ v t. subst T (sym (recoverable_same p b reload_frees_nothing v)) t)
    spared_recoverable Free s = spared_after Free (freed_away p b) s.1
