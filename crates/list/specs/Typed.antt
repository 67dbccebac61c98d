-- The statement of a line as it is typed. It assumes nothing.
use Rattle.std.specs.Prelude.{ℕ, ◌+◌, ◌-◌, List, length, take, drop}
use Rattle.std.specs.List.{prefix_len, suffix_len}
use Rattle.awl.specs.Alphabet.{in_class}
use Rattle.awl.specs.declared.bytes.ByteClass.TheVariants.{Space, BeforeColon}
use Rattle.reader.specs.Lines.{code_of}

-- what stands behind the first colon
abbrev pub behind_colon : List ℕ → List ℕ
behind_colon code = drop (prefix_len (in_class BeforeColon) code + 1) code

-- what stands behind the spaces in front
abbrev pub after_spaces : List ℕ → List ℕ
after_spaces bytes = drop (prefix_len (in_class Space) bytes) bytes

-- what stands before the spaces at the end
abbrev pub before_spaces : List ℕ → List ℕ
before_spaces bytes = take (length bytes - suffix_len (in_class Space) bytes) bytes

-- what stands behind the colon of a line, without outer spaces and comment
abbrev pub typed : List ℕ → List ℕ
typed line = before_spaces (after_spaces (behind_colon (code_of line)))
