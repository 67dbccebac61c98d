use Rattle.std.proofs.Common.{ℕ, ◌-◌, ◌^◌, ◌<◌}
use Rattle.checker.specs.Chains.{In, Linked}
use Rattle.checker.proofs.chains.entered.Given as goal

abbrev pub invariant-loop-next : goal.invariant-loop-next
invariant-loop-next l = In l.reach l.from × ((d : ℕ) → d < 32 → In l.reach d → (n : ℕ) × Linked l.calls l.from n d)

-- each turn but the last adds a slot
abbrev pub decreases-loop-next : goal.decreases-loop-next
decreases-loop-next l = 2 ^ 32 - l.reach
