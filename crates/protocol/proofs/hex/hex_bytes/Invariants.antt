use Rattle.std.proofs.Common.{◌≡◌, length, vec_items}
use Rattle.protocol.specs.Hex.{hex_bytes}
use Rattle.protocol.proofs.Spelling.{behind}
use Rattle.protocol.proofs.hex.hex_bytes.Given as goal

abbrev pub invariant-loop-rest : goal.invariant-loop-rest
invariant-loop-rest l = behind (vec_items l.bytes) l.rest ≡ hex_bytes l.digits

abbrev pub decreases-loop-rest : goal.decreases-loop-rest
decreases-loop-rest l = length l.rest
