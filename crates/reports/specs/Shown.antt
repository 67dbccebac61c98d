-- How the bytes of a text are shown. It assumes nothing.
use Rattle.std.specs.Prelude.{ℕ, cond, List, codes}
use Rattle.std.specs.List.{repeat}
use Rattle.awl.specs.Alphabet.{in_class}
use Rattle.awl.specs.declared.bytes.ByteClass.TheVariants.{Printable}

-- a printable byte as itself, any other as ?
abbrev pub shown_byte : ℕ → ℕ
shown_byte b = cond (in_class Printable b) b 63

-- some spaces
abbrev pub spaces : ℕ → List ℕ
spaces n = repeat n (codes " ")
