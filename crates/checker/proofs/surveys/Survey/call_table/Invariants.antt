use Rattle.std.proofs.Common.{◌≡◌, length}
use Rattle.checker.specs.Joins.{CallsTo}
use Rattle.checker.proofs.surveys.Survey.call_table.Given as goal

abbrev pub invariant-loop-slot : goal.invariant-loop-slot
invariant-loop-slot l = CallsTo l.self.store.now l.calls l.slot × (length l.calls ≡ 32)
