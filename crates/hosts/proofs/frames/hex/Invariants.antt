use Rattle.std.proofs.Common.{◌≡◌, ◌^◌, ◌<◌}
use Rattle.hosts.specs.Frames.{hex}
use Rattle.hosts.proofs.frames.hex.Given as goal

abbrev pub invariant-loop-c : goal.invariant-loop-c
invariant-loop-c l = (l.number ≡ hex l.digits 0 l.c-index) × (l.number < 16 ^ l.c-index)
