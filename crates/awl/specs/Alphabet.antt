-- Which bytes a class has. It assumes nothing.
use Rattle.std.specs.Prelude.{ℕ, Bool, not, ◌&&◌, ◌||◌, ◌==◌, nat_le}
use Rattle.awl.specs.declared.bytes.ByteClass.{ByteClass}
use Rattle.awl.specs.declared.bytes.ByteClass.TheVariants.{Printable, InLine, Space, Ink, BeforeComment, BeforeColon, BeforePoint, Digit, Capital, MarkByte}

-- A to Z
abbrev pub is_capital : ℕ → Bool
is_capital b = nat_le 65 b && nat_le b 90

-- 0 to 9
abbrev pub is_digit : ℕ → Bool
is_digit b = nat_le 48 b && nat_le b 57

-- 10 ends a line, 32 is a space, 59 is ; and 58 is : and 46 is a point
abbrev pub in_class : ByteClass → ℕ → Bool
in_class Printable b = nat_le 32 b && nat_le b 126
in_class InLine b = not (b == 10)
in_class Space b = b == 32
in_class Ink b = not (b == 32)
in_class BeforeComment b = not (b == 59)
in_class BeforeColon b = not (b == 58)
in_class BeforePoint b = not (b == 46)
in_class Digit b = is_digit b
in_class Capital b = is_capital b
in_class MarkByte b = is_capital b || is_digit b
