use Rattle.std.proofs.Common.{◌≡◌, ◌*◌, ◌≤◌, take, sum_by}
use Rattle.walk.specs.declared.sights.Finding.{Finding}
use Rattle.checker.proofs.Counting.{added}
use Rattle.checker.proofs.surveys.Survey.walked.Given as goal

abbrev pub invariant-loop-slot : goal.invariant-loop-slot
invariant-loop-slot l = ((d : Finding) → l.total ≡ sum_by (added l.self.store.now l.self.findings l.reach d) (take l.slot l.self.store.now.slots)) × (l.total ≤ l.slot * 255)
