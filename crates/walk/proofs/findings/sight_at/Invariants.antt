use Rattle.std.proofs.Common.{Decides}
use Rattle.walk.specs.Findings.{ComesBelow, MeetsBelow}
use Rattle.walk.specs.Flows.{flows_of}
use Rattle.walk.specs.Places.{Lowest}
use Rattle.walk.proofs.findings.sight_at.Given as goal

abbrev pub invariant-loop-brackets : goal.invariant-loop-brackets
invariant-loop-brackets l =
    Lowest l.fault (MeetsBelow (flows_of l.block.statements.now) l.statement l.brackets)
    × Decides l.walked (ComesBelow (flows_of l.block.statements.now) l.statement l.brackets)
