use Rattle.std.proofs.Common.{◌≡◌, ◌+◌, ◌≤◌, [], map, length, drop, vec_items}
use Rattle.lines.specs.Lines.{lines_of}
use Rattle.projects.specs.Sections.{seen_section, sections_from}
use Rattle.projects.proofs.Cutting.{sections_at}
use Rattle.projects.proofs.sections.sections.Given as goal

abbrev pub invariant-loop-index : goal.invariant-loop-index
invariant-loop-index l =
    (l.index-iterator.count ≤ l.at)
    × (l.at ≤ length l.file + 1)
    × (lines_of l.index-iterator.iter ≡ lines_of (drop l.at l.file))
    × (sections_at (map seen_section (vec_items l.parts)) (l.index-iterator.count + 1) l.file l.at ≡ sections_from [] 1 (lines_of l.file) l.file)
