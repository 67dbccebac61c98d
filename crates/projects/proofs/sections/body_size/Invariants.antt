use Rattle.std.proofs.Common.{◌≡◌, ◌+◌, ◌≤◌, length, drop}
use Rattle.lines.specs.Lines.{lines_of}
use Rattle.projects.specs.Sections.{body_size}
use Rattle.projects.proofs.sections.body_size.Given as goal

abbrev pub invariant-loop-line : goal.invariant-loop-line
invariant-loop-line l =
    (l.size ≤ length l.text + 1)
    × (lines_of l.line-iterator ≡ lines_of (drop l.size l.text))
    × (l.size + body_size (lines_of l.line-iterator) ≡ body_size (lines_of l.text))
