use Rattle.std.proofs.Common.{◌≡◌, drop}
use Rattle.checker.specs.Joins.{FoundTo}
use Rattle.checker.proofs.surveys.findings_of.Given as goal

abbrev pub invariant-loop-slot : goal.invariant-loop-slot
invariant-loop-slot l = FoundTo l.store l.finding-items l.slot × (drop 1530 l.places ≡ drop 1530 l.initial.places)
