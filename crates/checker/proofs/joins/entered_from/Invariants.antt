use Rattle.awl.specs.declared.names.BlockName.{BlockName}
use Rattle.checker.specs.Joins.{IsOf, EntersTo}
use Rattle.checker.proofs.joins.entered_from.Given as goal

abbrev pub invariant-loop-sight : goal.invariant-loop-sight
invariant-loop-sight l = (b : BlockName) → IsOf l.finding l.store b → EntersTo l.store b l.sight-index l.out
