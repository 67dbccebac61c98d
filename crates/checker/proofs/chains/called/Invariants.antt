use Rattle.checker.specs.Chains.{Called}
use Rattle.checker.proofs.chains.called.Given as goal

abbrev pub invariant-loop-slot : goal.invariant-loop-slot
invariant-loop-slot l = Called l.calls l.slots l.slot l.out
