use Rattle.std.proofs.Common.{◌≡◌, length}
use Rattle.list.specs.Typed.{before_spaces}
use Rattle.list.proofs.typed.without_end_spaces.Given as goal

abbrev pub invariant-loop-left : goal.invariant-loop-left
invariant-loop-left l = before_spaces l.left ≡ before_spaces l.bytes

abbrev pub decreases-loop-left : goal.decreases-loop-left
decreases-loop-left l = length l.left
