-- A field of whole bytes, by a copy of them.
use Rattle.std.proofs.Common.{◌≡◌, ◌+◌, ◌-◌, arith, rules}
use mathlib.Core.Logic.{by_cases}
use native.Mathlib.Decide.{dec_le}
use native.Mathlib.Nat.{lt_of_not-le}
use Rattle.bits.proofs.Pushing.{bytes_taken}
use Rattle.bits.proofs.put_bytes.Goals as goal

pub returns : goal.returns
returns c =
    let bytes = rw c.to_be_bytes.ensures at c.copy_from_slice.ensures.after in
    let s = c.args.s.now in
    let k = c.args.k in
    by_cases (dec_le 3 c.args.count)
    (λ h. let three : c.args.count ≡ 3 = omega (arith, h, c.requires.2) in
    rw three (bytes_taken s c.copy_from_slice.new.self k (k + 3 - k) 3 (λ j. search rules) (omega (arith, c.requires.0, three)) (omega arith) (rw three at bytes) (omega arith)))
    (λ h. let two : c.args.count ≡ 2 = omega (arith, lt_of_not-le h, c.requires.1) in
    rw two (bytes_taken s c.copy_from_slice.new.self k (k + 2 - k) 2 (λ j. search rules) (omega (arith, c.requires.0, two)) (omega arith) (rw two at bytes) (omega arith)))
