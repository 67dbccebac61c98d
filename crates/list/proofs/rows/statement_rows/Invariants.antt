use Rattle.std.proofs.Common.{◌≡◌, ◌+◌, ◌≤◌, ◌++◌, length, drop, string_bytes}
use Rattle.lines.specs.Lines.{lines_of}
use Rattle.reader.specs.Listed.{listed}
use Rattle.list.specs.Rows.{statement_rows}
use Rattle.list.proofs.rows.statement_rows.Given as goal

abbrev pub invariant-loop-index : goal.invariant-loop-index
invariant-loop-index l =
    (l.index-iterator.count + length (lines_of l.index-iterator.iter) ≤ length l.text)
    × (l.done ≤ l.block.count)
    × (string_bytes l.rows ++ statement_rows (drop l.done (listed l.block.lines l.block.count)) (l.index-iterator.count + 1) (l.done + 1) (lines_of l.index-iterator.iter)
    ≡ statement_rows (listed l.block.lines l.block.count) 1 1 (lines_of l.text))
