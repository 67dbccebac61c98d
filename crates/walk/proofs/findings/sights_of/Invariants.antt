use Rattle.std.proofs.Common.{length}
use Rattle.walk.specs.Flows.{flows_of}
use Rattle.walk.proofs.Sighting.{SightedBelow}
use Rattle.walk.proofs.findings.sights_of.Given as goal

abbrev pub invariant-loop-i : goal.invariant-loop-i
invariant-loop-i l = SightedBelow (flows_of l.block.statements.now) (length l.block.statements.now) l.told l.i
