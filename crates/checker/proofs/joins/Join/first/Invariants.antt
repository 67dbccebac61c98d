use Rattle.checker.specs.Joins.{JudgesTo}
use Rattle.checker.proofs.joins.Join.first.Given as goal

abbrev pub invariant-loop-slot : goal.invariant-loop-slot
invariant-loop-slot l = JudgesTo l.self.survey.now.store.now l.slot l.best
