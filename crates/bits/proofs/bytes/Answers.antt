-- The two or three bytes from a byte on, as one field.
use Rattle.std.proofs.Common.{◌≡◌, ◌*◌, arith}
use Rattle.bits.proofs.Reading.{field_at_two, field_at_three}
use Rattle.bits.proofs.bytes.Goals as goal

pub returns-then-count-gt2 : goal.returns-then-count-gt2
returns-then-count-gt2 c =
    let all : c.args.count * 8 ≡ 24 = omega (arith, c.requires.2, c.if-count-gt2.true) in
    rw all (omega (arith, c.from_be_bytes.ensures, c.from-two.ensures, c.from.ensures, field_at_three c.args.s.now c.args.k (λ j. (c.type_inv.s j).fits)))

pub returns : goal.returns
returns c =
    let all : c.args.count * 8 ≡ 16 = omega (arith, c.requires.1, c.if-count-gt2.false) in
    rw all (omega (arith, c.from_be_bytes.ensures, c.from-two.ensures, field_at_two c.args.s.now c.args.k (λ j. (c.type_inv.s j).fits)))
