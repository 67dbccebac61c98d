use Rattle.std.proofs.Common.{◌≡◌, ◌+◌, ◌≤◌, length}
use Rattle.lines.specs.Lines.{lines_of}
use Rattle.projects.specs.Sections.{no_stray}
use Rattle.projects.proofs.sections.check_stray.Given as goal

abbrev pub invariant-loop-index : goal.invariant-loop-index
invariant-loop-index l =
    (l.index-iterator.count + length (lines_of l.index-iterator.iter) ≤ length l.text)
    × (no_stray (l.first + l.index-iterator.count) (lines_of l.index-iterator.iter) ≡ no_stray l.first (lines_of l.text))
