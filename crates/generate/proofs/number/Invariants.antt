-- `number` reads an argument. Assumes nothing.
use Rattle.std.proofs.Common.{◌≡◌, drop}
use Rattle.generate.specs.Arguments.{read_on, given}
use Rattle.generate.proofs.number.Given as goal

abbrev pub invariant-loop-c : goal.invariant-loop-c
invariant-loop-c l = given l.text ≡ read_on l.n (drop l.c-index l.text)
