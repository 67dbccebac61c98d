-- How far an operand reaches: the bytes of the image that are free, and the bytes and data words that a place takes.
-- It assumes nothing.
use Rattle.std.specs.Prelude.{ℕ}
use Rattle.awl.specs.declared.places.Area.{Area}
use Rattle.awl.specs.declared.places.Area.TheVariants.{Input, Output, Flag}
use Rattle.awl.specs.declared.places.Width.{Width}
use Rattle.awl.specs.declared.places.Width.TheVariants.{Byte, Word, Double}
use Rattle.awl.specs.declared.places.DataPart.{DataPart}
use Rattle.awl.specs.declared.places.DataPart.TheVariants as part

-- inputs and outputs are free from 0 to 127, flags from 0 to 191: flags 192 to 255 belong to the drives
abbrev pub free_bytes : Area → ℕ
free_bytes Input = 128
free_bytes Output = 128
free_bytes Flag = 192

-- how many bytes of the image a place takes
abbrev pub bytes_of : Width → ℕ
bytes_of Byte = 1
bytes_of Word = 2
bytes_of Double = 4

-- how many data words a data place touches, of the 256 that a data block can have
abbrev pub words_of : DataPart → ℕ
words_of part.Left = 1
words_of part.Right = 1
words_of part.Word = 1
words_of part.Double = 2
