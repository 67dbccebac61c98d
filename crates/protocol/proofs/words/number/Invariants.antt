use Rattle.std.proofs.Common.{◌≡◌, ◌≤◌, drop}
use Rattle.awl.specs.Digits.{number_from}
use Rattle.protocol.proofs.words.number.Given as goal

abbrev pub invariant-loop-byte : goal.invariant-loop-byte
invariant-loop-byte l =
    (l.value ≤ l.most) × (number_from l.value (drop l.byte-index l.word) ≡ number_from 0 l.word)
