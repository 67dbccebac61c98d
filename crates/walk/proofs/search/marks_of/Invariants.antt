use Rattle.std.proofs.Common.{◌≡◌, ◌+◌, ◌*◌, ◌≤◌, length, drop}
use Rattle.walk.specs.Flows.{flows_of}
use Rattle.walk.specs.Search.{waiting_on, Hunt, Marked, unmarked}
use Rattle.walk.proofs.search.marks_of.Given as goal

-- the search's own invariant, and that the stack stays over the same places
abbrev pub invariant-loop-place : goal.invariant-loop-place
invariant-loop-place l =
    (l.waiting.slots.ghost_name ≡ l.initial.waiting.slots.ghost_name)
    × (1530 ≤ length l.waiting.slots.now)
    × (drop 1530 l.waiting.slots.now ≡ drop 1530 l.initial.waiting.slots.now)
    × Hunt (flows_of l.block.statements.now) l.marks.marked (waiting_on l.waiting.slots.now l.waiting.depth)
    × Marked l.marks.marked 1 0

abbrev pub decreases-loop-place : goal.decreases-loop-place
decreases-loop-place l = l.waiting.depth + 2 * unmarked l.marks.marked
