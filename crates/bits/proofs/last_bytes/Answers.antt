-- The same where the slice ends: a byte past the end is 0.
use Rattle.std.proofs.Common.{◌≡◌, ◌+◌, arith, rules, get_or}
use Rattle.bits.proofs.Reading.{field_at_four}
use Rattle.bits.proofs.last_bytes.Goals as goal

pub returns : goal.returns
returns c =
    let first : c.byte.result ≡ get_or c.args.s.now c.args.k 0 = search rules in
    let second : c.byte-2.result ≡ get_or c.args.s.now (c.args.k + 1) 0 = search rules in
    let third : c.byte-3.result ≡ get_or c.args.s.now (c.args.k + 2) 0 = search rules in
    let fourth : c.byte-4.result ≡ get_or c.args.s.now (c.args.k + 3) 0 = search rules in
    omega (arith, c.from_be_bytes.ensures, field_at_four c.args.s.now c.args.k (λ j. (c.type_inv.s j).fits))
