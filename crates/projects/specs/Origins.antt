-- Where the statements of a project stand in its file. It assumes nothing.
use Rattle.std.specs.Prelude.{ℕ, ◌+◌, ◌-◌, ◌^◌, min, cond, List, [], ◌∷◌, Some, None, Ok, Err, Option, Result, ◌==◌}
use Rattle.std.specs.Option.{option_map}
use Rattle.reader.specs.Reading.{Entry, reading}
use Rattle.reader.specs.declared.faults.BlockFault.{BlockFault}
use Rattle.projects.specs.Sections.{Cut}

-- the line of a statement in its text; statements are counted from 1
abbrev pub line_among : ℕ → List Entry → Option ℕ
line_among s [] = None
line_among s (e ∷ es) = cond (s == 1) (Some e.line) (line_among (s - 1) es)

-- the same in a text that may be refused
abbrev pub line_read : ℕ → Result (List Entry) BlockFault → Option ℕ
line_read s (Ok es) = line_among s es
line_read s (Err f) = None

-- a line below a head of the file, where a number of 64 bits holds it
abbrev pub below : ℕ → ℕ → ℕ
below head line = min (head + line) (2 ^ 64 - 1)

-- the line of the file where a section's statement stands
abbrev pub line_below : ℕ → Cut → Option ℕ
line_below s c = option_map (below c.line) (line_read s (reading c.text))

abbrev pub line_of : ℕ → Option Cut → Option ℕ
line_of s (Some c) = line_below s c
line_of s None = None
