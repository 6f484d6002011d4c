-- `write` answers for any lists and any buffer. Assumes nothing.
use mathlib.Core.Path.{◌≡◌, sym, ap, ap₂, ◌∙◌, subst}
use mathlib.Core.Bool.{not}
use Prim.Native.Nat.{ℕ}
use native.Mathlib.Omega.{arith}
use lib.ListN.{length}
use borrow.Author.Tests.{ne_eqb}
use Rattle.lists.specs.Lists.{first}
use Rattle.std.proofs.lemmas.Result.{err_from_is_err_and}
use Rattle.picture.specs.declared.Edition.{Edition}
use Rattle.picture.specs.declared.refusals.Refusal.TheVariants.{Edition as EditionRefused}
use Rattle.picture.specs.declared.Header.{Header}
use Rattle.picture.specs.Layout.{size_of}
use Rattle.picture.specs.Inner.{Known, Limited}
use Rattle.picture.proofs.Editions.{known_for}
use Rattle.picture.proofs.Finding.{tells}
use Rattle.write.specs.Columns.{Lists, handed}
use Rattle.write.specs.Rules.{size_for}
use Rattle.write.specs.Faults.{handed_faults, write_fault}
use Rattle.write.specs.Inner.{columns_header, under, Ready, Written}
use Rattle.write.proofs.Right.{edition_in, Right}
use Rattle.write.proofs.Judged.{handed_right}
use Rattle.write.proofs.Judging.{right_limited, right_size}
use Rattle.write.proofs.Answering.{fills_faulty, fills_short, fills_made}
use Rattle.write.proofs.write.Goals as goal
use Rattle.write.proofs.write.Goals.{After-edition_for-e, After-from, After-size_of-size, In_ok-judge, Start}

-- the lists that are handed over, with an edition's number and a κ, and the header of their columns, with an edition
abbrev numbered : Start → ℕ → ℕ → Lists
numbered s n k =
    let a = s.args in
    handed n a.block_size k a.states.now a.is_near.now a.weights.now a.is_protected.now a.links.now a.service_links.now

abbrev lists : Start → Lists
lists s = numbered s s.args.edition s.args.near_limit

abbrev header : Start → Edition → ℕ → Header
header s e k =
    let a = s.args in
    record {
      edition = e;
      block_size = a.block_size;
      slots = length a.states.now;
      near_limit = k;
      endpoints = length a.weights.now;
      links = length a.links.now;
      service_links = length a.service_links.now;
    }

-- the edition is that of the number, so that the header is that of the lists
edition : (c : After-edition_for-e) → c.edition_for-e.result ≡ edition_in (lists (goal.at.After-edition_for-e c).Start)
unfolding handed
edition c = c.edition_for-e.ensures

known : (c : After-edition_for-e) → Known c.edition_for-e.result
known c = subst Known (sym (edition c)) (known_for _)

same : (c : After-from) → let s = (goal.at.After-from c).Start in header s c.edition_for-e.result c.from.result ≡ columns_header (lists s)
unfolding columns_header handed
same c = let at = goal.at.After-from c in ap₂ (header at.Start) (edition at.After-edition_for-e) c.from.ensures

-- behind the test the lists under the header are those that were handed over
alike : (c : After-from) → let s = (goal.at.After-from c).Start in numbered s c.edition_for-e.result.number c.from.result ≡ lists s
alike c = ap₂ (numbered (goal.at.After-from c).Start) c.if-e-edition.false c.from.ensures

-- where they have no fault they keep their rules
clean : (c : In_ok-judge) → 0 ≡ first (handed_faults (lists (goal.at.In_ok-judge c).Start))
unfolding under
clean c = c.in_ok-judge.ensures ∙ ap (λ (l : Lists). first (handed_faults l)) (alike (goal.at.In_ok-judge c).After-from)

right : (c : In_ok-judge) → Right (lists (goal.at.In_ok-judge c).Start)
right c = handed_right (lists (goal.at.In_ok-judge c).Start) (sym (clean c))

pub returns-then-e-edition : goal.returns-then-e-edition
unfolding handed_faults handed write_fault
returns-then-e-edition c =
    let at = goal.at.returns-then-e-edition c in
    let found = ap (λ (e : Edition). e.number) (edition at.After-edition_for-e) in
    fills_faulty (handed_faults (lists at.Start)) EditionRefused (tells _ (ap not (ne_eqb _ _ (λ z. c.if-e-edition.true (found ∙ sym z)))))

pub judge-requires : goal.judge-requires
unfolding under
judge-requires c =
    let at = goal.at.judge-requires c in
    record { known = known at.After-edition_for-e; h_value = same at.After-from ∙ ap columns_header (sym (alike at.After-from)) }

pub returns-in_err-judge : goal.returns-in_err-judge
unfolding write_fault under
returns-in_err-judge c =
    let at = goal.at.returns-in_err-judge c in
    let p = err_from_is_err_and c.from_residual.result c.from_residual.ensures.1 in
    rw (p.1, p.2)
    (fills_faulty (handed_faults (lists at.Start)) _ (c.in_err-judge.ensures ∙ ap (λ (l : Lists). first (handed_faults l)) (alike at.After-from)))

pub size_of-size-requires : goal.size_of-size-requires
size_of-size-requires c =
    let at = goal.at.size_of-size-requires c in
    subst Limited (sym (same at.After-from)) (right_limited (right at.In_ok-judge))

-- the size that is asked for
size : (c : After-size_of-size) → c.size_of-size.result ≡ size_for (lists (goal.at.After-size_of-size c).Start)
size c =
    let at = goal.at.After-size_of-size c in
    c.size_of-size.ensures ∙ ap size_of (same at.After-from) ∙ right_size (right at.In_ok-judge)

pub returns-then-buf-size : goal.returns-then-buf-size
unfolding write_fault
returns-then-buf-size c =
    let at = goal.at.returns-then-buf-size c in
    fills_short (handed_faults (lists at.Start)) (clean at.In_ok-judge) (omega (arith, c.if-buf-size.true, size at.After-size_of-size))

pub put_picture-requires : goal.put_picture-requires
unfolding under
put_picture-requires c =
    let at = goal.at.put_picture-requires c in
    let here = λ (l : Lists). Ready l (header at.Start c.edition_for-e.result c.from.result) c.args.buf.now in
    subst here (sym (alike at.After-from))
    (record {
      right = sym (clean at.In_ok-judge);
      header = same at.After-from;
      room = omega (arith, c.if-buf-size.false, size at.After-size_of-size);
    })

pub returns : goal.returns
unfolding under write_fault
returns c =
    let at = goal.at.returns c in
    let buf = c.args.buf.now in
    let long = size at.After-size_of-size in
    fills_made (handed_faults (lists at.Start)) (clean at.In_ok-judge) (omega (arith, c.if-buf-size.false, long)) long
    (subst (λ (l : Lists). Written l buf c.put_picture.new.buf) (alike at.After-from) c.put_picture.ensures)
