-- One line of a text, by what it holds. Assumes nothing.
use Rattle.std.proofs.Common.{◌≡◌, ℕ, false, List, None}
use Rattle.parser.specs.Answers.{map_err}
use Rattle.reader.specs.Lines.{holds, sound}
use Rattle.reader.specs.Reading.{Entry, line_entry}
use Rattle.reader.specs.declared.faults.BlockFault.TheVariants.{Line}

pub line_blank : (es : List Entry) (n : ℕ) (line : List ℕ) → holds line ≡ false → line_entry es n line ≡ map_err Line (sound n line None)
unfolding line_entry
line_blank es n line h = cc
