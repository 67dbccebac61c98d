use Rattle.std.proofs.Common.{◌≡◌, ◌+◌, ◌++◌, map, drop, string_bytes}
use Rattle.reader.specs.Listed.{entry}
use Rattle.list.specs.Rows.{lost_rows}
use Rattle.list.proofs.rows.lost_rows.Given as goal

abbrev pub invariant-loop-index : goal.invariant-loop-index
invariant-loop-index l = string_bytes l.rows ++ lost_rows (l.index + 1) (drop l.index (map entry l.line-items)) ≡ lost_rows 1 (map entry l.line-items)
