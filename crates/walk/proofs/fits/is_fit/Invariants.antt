use Rattle.std.proofs.Common.{ℕ, ◌≤◌}
use Rattle.walk.specs.Flows.{flows_of}
use Rattle.walk.specs.Walk.{Aimed}
use Rattle.walk.proofs.fits.is_fit.Given as goal

abbrev pub invariant-loop-statement : goal.invariant-loop-statement
invariant-loop-statement l = (s : ℕ) → 1 ≤ s → s ≤ l.statement-index → Aimed (flows_of l.block) s
