use Rattle.std.proofs.Common.{◌≡◌, ◌^◌, ◌<◌, drop}
use Rattle.awl.specs.Digits.{number_from}
use Rattle.lexer.proofs.values.number.Given as goal

abbrev pub invariant-loop-byte : goal.invariant-loop-byte
invariant-loop-byte l =
    (l.value < 10 ^ l.byte-index) × (number_from l.value (drop l.byte-index l.bytes) ≡ number_from 0 l.bytes)
