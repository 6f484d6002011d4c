-- `generate` answers for any seed, any numbers and any buffer. Assumes nothing.
use mathlib.Core.Path.{◌≡◌, refl, sym, ap, ◌∙◌, subst}
use mathlib.Core.List.{◌++◌}
use Prim.Native.Nat.{◌*◌}
use native.Mathlib.Omega.{arith}
use lib.ListN.{drop}
use Rattle.std.proofs.lemmas.Result.{err_from_is_err_and}
use Rattle.lists.specs.Lists.{first}
use Rattle.picture.specs.declared.Edition.{Edition}
use Rattle.picture.specs.declared.Header.{Header}
use Rattle.picture.specs.Layout.{edition_for, size_of}
use Rattle.picture.specs.Inner.{Known, Limited}
use Rattle.write.proofs.Answering.{fills_faulty, fills_short, fills_made}
use Rattle.generator.specs.Generated.{asked_header}
use Rattle.generator.specs.Faults.{asked_faults, generate_fault}
use Rattle.generator.specs.Answers.{generated_picture}
use Rattle.generator.specs.Inner.{Ready}
use Rattle.generator.proofs.Judged.{asked_right}
use Rattle.generator.proofs.generate.Goals as goal
use Rattle.generator.proofs.generate.Goals.{After-edition_for, After-size_of-size, In_ok-judge}

-- the header that is asked for, and the one of the code, with an edition
abbrev asked : After-edition_for → Header
asked c = let a = c.args in asked_header a.block_size a.blocks a.endpoints a.links a.service_links

abbrev header : After-edition_for → Edition → Header
header c e =
    let a = c.args in
    record {
      edition = e;
      block_size = a.block_size;
      slots = a.block_size * a.blocks;
      near_limit = a.block_size * a.blocks;
      endpoints = a.endpoints;
      links = a.links;
      service_links = a.service_links;
    }

same : (c : After-edition_for) → header c c.edition_for.result ≡ asked c
unfolding asked_header edition_for
same c = ap (header c) c.edition_for.ensures

-- which has no fault
clean : (c : In_ok-judge) → 0 ≡ first (asked_faults (asked (goal.at.In_ok-judge c).After-edition_for))
clean c = c.in_ok-judge.ensures ∙ ap (λ (h : Header). first (asked_faults h)) (same (goal.at.In_ok-judge c).After-edition_for)

-- so that its size is known
limited : (c : In_ok-judge) → Limited (asked (goal.at.In_ok-judge c).After-edition_for)
unfolding asked_header
limited c =
    let r = asked_right (asked (goal.at.In_ok-judge c).After-edition_for) (sym (clean c)) in
    record { known = Known.first; slots = r.sizes.slots_most; counts = r.counts }

size : (c : After-size_of-size) → c.size_of-size.result ≡ size_of (asked (goal.at.After-size_of-size c).After-edition_for)
size c = c.size_of-size.ensures ∙ ap size_of (same (goal.at.After-size_of-size c).After-edition_for)

pub returns-in_err-judge : goal.returns-in_err-judge
unfolding generate_fault
returns-in_err-judge c =
    let p = err_from_is_err_and c.from_residual.result c.from_residual.ensures.1 in
    rw (p.1, p.2)
    (fills_faulty (asked_faults (asked (goal.at.returns-in_err-judge c).After-edition_for)) _
    (c.in_err-judge.ensures ∙ ap (λ (h : Header). first (asked_faults h)) (same (goal.at.returns-in_err-judge c).After-edition_for)))

pub size_of-size-requires : goal.size_of-size-requires
size_of-size-requires c =
    subst Limited (sym (same (goal.at.size_of-size-requires c).After-edition_for)) (limited (goal.at.size_of-size-requires c).In_ok-judge)

pub returns-then-buf-size : goal.returns-then-buf-size
unfolding generate_fault
returns-then-buf-size c =
    fills_short (asked_faults (asked (goal.at.returns-then-buf-size c).After-edition_for)) (clean (goal.at.returns-then-buf-size c).In_ok-judge)
    (omega (arith, c.if-buf-size.true, size (goal.at.returns-then-buf-size c).After-size_of-size))

pub put_generated-requires : goal.put_generated-requires
unfolding asked_header
put_generated-requires c =
    subst (λ (h : Header). Ready h c.args.buf.now) (sym (same (goal.at.put_generated-requires c).After-edition_for))
    (record { edition = refl; near = refl; right = sym (clean (goal.at.put_generated-requires c).In_ok-judge); room = omega (arith, c.if-buf-size.false, size (goal.at.put_generated-requires c).After-size_of-size) })

pub returns : goal.returns
unfolding generate_fault
returns c =
    let a = c.args in
    fills_made (asked_faults (asked (goal.at.returns c).After-edition_for)) (clean (goal.at.returns c).In_ok-judge)
    (omega (arith, c.if-buf-size.false, size (goal.at.returns c).After-size_of-size)) (size (goal.at.returns c).After-size_of-size)
    (subst (λ (h : Header). c.put_generated.new.buf ≡ generated_picture a.seed h ++ drop (size_of h) a.buf.now) (same (goal.at.returns c).After-edition_for) c.put_generated.ensures)
