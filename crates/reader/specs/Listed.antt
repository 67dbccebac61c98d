-- A block's lines as the code holds them, seen as the definition has them. It assumes nothing.
use Rattle.std.specs.Prelude.{ℕ, List, map, take}
use Rattle.std.specs.Option.{option_map}
use Rattle.awl.specs.Written.{mark_text}
use Rattle.reader.specs.Reading.{Entry}
use Rattle.parser.specs.Statements.{written}
use Rattle.reader.specs.declared.listings.Line.{Line}

-- a line of the code as a statement that was read
abbrev pub entry : Line → Entry
entry l = record { line = l.number; mark = option_map mark_text l.mark; statement = written l.statement }

-- the first of some lines
abbrev pub listed : List Line → ℕ → List Entry
listed lines count = map entry (take count lines)
