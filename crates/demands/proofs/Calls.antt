-- A list of calls keeps what C-15 and C-19 say. Each sentence is shown for one call, and goes from call to call. Assumes nothing.
use mathlib.Core.Path.{◌≡◌, refl, sym, subst, ◌∙◌}
use mathlib.Core.Logic.{by_cases}
use mathlib.Core.List.{List, [], ◌∷◌, ◌++◌}
use Prim.Native.Nat.{ℕ}
use native.Mathlib.Decide.{ℕ_discrete}
use Rattle.picture.specs.Picture.{picture_of, endpoint_of}
use Rattle.picture.specs.Faults.{picture_fault}
use Rattle.network.proofs.Named.{accepted_named}
use Rattle.acts.specs.declared.Act.{Act}
use Rattle.acts.specs.Acts.{done_bytes, act_on}
use Rattle.acts.specs.Faults.{act_fault}
use Rattle.acts.proofs.Slots.{near_acted, freed_acted}
use Rattle.acts.proofs.Acted.{acted_header, acted_picture, acted_accepted}
use Rattle.acts.proofs.Judged.{Doable, done_doable, done_bytes_lem, refused_bytes}
use Rattle.acts.proofs.Spared.{spared_serves, spared_recoverable}
use Rattle.demands.specs.Calls.{Call, call_bytes, bytes_after, Keeps, CallsKeep}

-- ---- what is kept goes from call to call

keeps_own : (bs : List ℕ) → picture_fault bs ≡ 0 → Keeps bs bs
keeps_own bs ok =
    record {
      accepted = ok;
      sizes = refl;
      near = λ v. refl;
      endpoints = refl;
      links = refl;
      service_links = refl;
      served = λ c t s. s;
      recoverable = λ c t s. s;
      freed = λ v e. e;
    }

keeps_then : {first next last : List ℕ} → Keeps first next → Keeps next last → Keeps first last
unfolding endpoint_of
keeps_then k l =
    record {
      accepted = l.accepted;
      sizes = l.sizes ∙ k.sizes;
      near = λ v. l.near v ∙ k.near v;
      endpoints = l.endpoints ∙ k.endpoints;
      links = l.links ∙ k.links;
      service_links = l.service_links ∙ k.service_links;
      served = λ c t s. l.served c (rw k.endpoints t) (k.served c t s);
      recoverable = λ c t s. l.recoverable c (rw k.endpoints t) (k.recoverable c t s);
      freed = λ v e. l.freed v (k.freed v e);
    }

-- ---- one call

-- a done act keeps all of it: the one law of a step
done_keeps : (a : Act) (bs : List ℕ) (b : ℕ) → Doable a bs b → Keeps bs (done_bytes a bs b)
done_keeps a bs b d =
    let ok = d.accepted in
    let there = d.there in
    let p = picture_of bs in
    let same = acted_picture a bs b ok there in
    let named = accepted_named bs ok in
    record {
      accepted = acted_accepted a bs b ok there;
      sizes = acted_header a bs b ok there;
      near = λ v. rw same (near_acted a p b v);
      endpoints = rw same (unfold act_on in refl);
      links = rw same (unfold act_on in refl);
      service_links = rw same (unfold act_on in refl);
      served = λ c t s. rw same (spared_serves p b c named t a d.spares s);
      recoverable = λ c t s. rw same (spared_recoverable p b c named t a d.spares s);
      freed = λ v e. rw same (freed_acted a p b v e);
    }

-- and a refused one leaves every byte
call_keeps : (bs : List ℕ) → picture_fault bs ≡ 0 → (c : Call) → Keeps bs (call_bytes bs c)
unfolding call_bytes
call_keeps bs ok c =
    let a = c.act in
    let b = c.block in
    by_cases (ℕ_discrete (act_fault a bs b) 0) (λ z. rw (done_bytes_lem a bs b z) (done_keeps a bs b (done_doable a bs b z))) (λ n. rw (refused_bytes a bs b n) (keeps_own bs ok))

-- ---- all calls of a list

list_keeps : (bs : List ℕ) → picture_fault bs ≡ 0 → (cs : List Call) → Keeps bs (bytes_after bs cs)
unfolding bytes_after
list_keeps bs ok [] = keeps_own bs ok
list_keeps bs ok (c ∷ cs) = let k = call_keeps bs ok c in keeps_then k (list_keeps (call_bytes bs c) k.accepted cs)

-- more calls go on from where the first ones end
after_more : (bs : List ℕ) (cs more : List Call) → bytes_after bs (cs ++ more) ≡ bytes_after (bytes_after bs cs) more
unfolding bytes_after
after_more bs [] more = refl
after_more bs (c ∷ cs) more = after_more (call_bytes bs c) cs more

pub calls_keep : CallsKeep
calls_keep bs ok calls more =
    subst (Keeps (bytes_after bs calls)) (sym (after_more bs calls more)) (list_keeps (bytes_after bs calls) (list_keeps bs ok calls).accepted more)
