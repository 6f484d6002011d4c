-- `nth_record` reads three bytes. Assumes nothing.
use mathlib.Core.Path.{sym, ◌∙◌}
use native.Mathlib.Omega.{arith}
use Prim.Native.Nat.{◌+◌, ◌*◌}
use Rattle.bits.proofs.Reading.{field_at_byte, field_at_lt}
use Rattle.price.specs.Traffic.{record_bytes}
use Rattle.price.proofs.Records.{record_read}
use Rattle.price.proofs.nth_record.Goals as goal

pub overflow_cast-result : goal.overflow_cast-result
overflow_cast-result c = omega (arith, c.bytes.ensures, field_at_lt c.args.records.now ((c.args.i * record_bytes + 1) * 8) 16)

pub returns : goal.returns
returns c = record_read _ c.args.i c.requires (c.from.ensures ∙ sym (field_at_byte _ _ (omega (arith, c.type_inv.records (c.args.i * record_bytes))))) c.bytes.ensures
