use Rattle.std.proofs.Common.{◌≡◌}
use lib.Seq.{paste}
use Rattle.store.specs.Runs.{statement_lines}
use Rattle.store.proofs.tables.put_lines.Given as goal

abbrev pub invariant-loop-i : goal.invariant-loop-i
invariant-loop-i l = l.table ≡ paste l.initial.table l.first (statement_lines l.lines) l.i
