use Rattle.std.proofs.Common.{rules}
use Rattle.protocol.specs.Hex.{hex_of}
use Rattle.protocol.proofs.hex.hex.Goals as goal

pub returns-then-is_empty : goal.returns-then-is_empty
unfolding hex_of
returns-then-is_empty c = search rules

pub returns-then-is_dash : goal.returns-then-is_dash
unfolding hex_of
returns-then-is_dash c = search rules

pub returns : goal.returns
unfolding hex_of
returns c = search rules
