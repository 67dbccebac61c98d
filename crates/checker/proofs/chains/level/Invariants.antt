use Rattle.checker.specs.Chains.{Level}
use Rattle.checker.proofs.chains.level.Given as goal

abbrev pub invariant-loop-step : goal.invariant-loop-step
invariant-loop-step l = Level l.calls l.from l._step l.level
