-- The lines of a block as a run of statements. It assumes nothing.
use Rattle.std.specs.Prelude.{List, map}
use Rattle.awl.specs.declared.statements.Statement.{Statement}
use Rattle.reader.specs.declared.listings.Line.{Line}

-- the statements that the lines hold
abbrev pub statement_lines : List Line → List Statement
statement_lines lines = map (λ l. l.statement) lines
