use Rattle.std.proofs.Common.{◌≡◌, ◌+◌, ◌≤◌, [], length}
use Rattle.reader.specs.Lines.{lines_of}
use Rattle.reader.specs.Listed.{listed}
use Rattle.reader.specs.Reading.{lines_read}
use Rattle.reader.proofs.blocks.read_lines.Given as goal

abbrev pub invariant-loop-index : goal.invariant-loop-index
invariant-loop-index l =
    (l.index-iterator.count + length (lines_of l.index-iterator.iter) ≤ length l.text)
    × (lines_read (listed l.listing.lines l.listing.count) (l.index-iterator.count + 1) (lines_of l.index-iterator.iter)
    ≡ lines_read [] 1 (lines_of l.text))
