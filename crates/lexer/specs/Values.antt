-- What stands behind the letters of an operand: the number, bit or mark, in its range. It assumes nothing.
use Rattle.std.specs.Prelude.{ℕ, ◌+◌, Bool, cond, ◌&&◌, leb, List, length, take, drop, Some, None, Option, nat_le, nat_lt}
use Rattle.std.specs.Option.{option_map}
use Rattle.std.specs.List.{prefix_len}
use Rattle.awl.specs.Alphabet.{in_class}
use Rattle.awl.specs.MarkText.{is_mark}
use Rattle.awl.specs.Reach.{free_bytes, bytes_of, words_of}
use Rattle.awl.specs.Written.{Operand, bit, span, timer, counter, data_place, byte_constant, double_constant, mark, block, data_block}
use Rattle.awl.specs.declared.bytes.ByteClass.TheVariants.{BeforePoint}
use Rattle.awl.specs.declared.places.Area.{Area}
use Rattle.lexer.specs.Numbers.{number_of, double_of}
use Rattle.lexer.specs.declared.letters.Letters.{Letters}
use Rattle.lexer.specs.declared.letters.Letters.TheVariants.{Area as AreaLetter, Timer, Counter, Span, Data, Byte, Double, Jump, Block, DataBlock}

-- a number that passes a test
abbrev pub fitting : (ℕ → Bool) → Option ℕ → Option ℕ
fitting p None = None
fitting p (Some n) = cond (p n) (Some n) None

-- a number of one byte
abbrev pub byte_of : List ℕ → Option ℕ
byte_of bs = fitting (λ n. leb n 255) (number_of bs)

-- a bit of an area from its two numbers: a free byte, and 0 to 7
abbrev pub bit_from : Area → Option ℕ → Option ℕ → Option Operand
bit_from a None y = None
bit_from a (Some n) None = None
bit_from a (Some n) (Some y) = cond (nat_le (n + 1) (free_bytes a) && nat_le y 7) (Some (bit a n y)) None

-- byte.bit: the two numbers are parted by the first point
abbrev pub bit_of : Area → List ℕ → Option Operand
bit_of a bs =
    let point = prefix_len (in_class BeforePoint) bs in
    cond (nat_lt point (length bs)) (bit_from a (number_of (take point bs)) (number_of (drop (point + 1) bs))) None

-- the operand that letters make with what stands behind them
abbrev pub value_of : Letters → List ℕ → Option Operand
value_of (AreaLetter a) bs = bit_of a bs
value_of Timer bs = option_map timer (fitting (λ n. leb n 63) (number_of bs))
value_of Counter bs = option_map counter (fitting (λ n. leb n 63) (number_of bs))
value_of (Span a w) bs = option_map (span a w) (fitting (λ n. leb (n + bytes_of w) (free_bytes a)) (number_of bs))
value_of (Data p) bs = option_map (data_place p) (fitting (λ n. leb (n + words_of p) 256) (number_of bs))
value_of Byte bs = option_map byte_constant (byte_of bs)
value_of Double bs = option_map double_constant (double_of bs)
value_of Jump bs = cond (is_mark bs) (Some (mark bs)) None
value_of (Block k) bs = option_map (block k) (byte_of bs)
value_of DataBlock bs = option_map data_block (byte_of bs)
