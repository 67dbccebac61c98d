-- The letters of an operand. It assumes nothing.
use Rattle.std.specs.Prelude.{ℕ, cond, List, length, Some, None, Option, ◌==◌, slice_index}
use Rattle.awl.specs.declared.names.BlockKind.{BlockKind}
use Rattle.awl.specs.declared.names.BlockKind.TheVariants.{Organisation, Program, Function}
use Rattle.awl.specs.declared.places.Area.{Area}
use Rattle.awl.specs.declared.places.Area.TheVariants.{Input, Output, Flag}
use Rattle.awl.specs.declared.places.Width.TheVariants as width
use Rattle.awl.specs.declared.places.DataPart.TheVariants as part
use Rattle.lexer.specs.declared.letters.Letters.{Letters}
use Rattle.lexer.specs.declared.letters.Letters.TheVariants.{Area as AreaLetter, Timer, Counter, Span, Data, Byte, Double, Jump, Block, DataBlock}

-- E, A, M, T, Z and =
abbrev pub one_letter : ℕ → Option Letters
one_letter c =
    cond (c == 69) (Some (AreaLetter Input))
    (cond (c == 65) (Some (AreaLetter Output))
    (cond (c == 77) (Some (AreaLetter Flag))
    (cond (c == 84) (Some Timer)
    (cond (c == 90) (Some Counter)
    (cond (c == 61) (Some Jump) None)))))

-- B, W and D behind E, A or M
abbrev pub span_letters : Area → ℕ → Option Letters
span_letters a c =
    cond (c == 66) (Some (Span a width.Byte))
    (cond (c == 87) (Some (Span a width.Word))
    (cond (c == 68) (Some (Span a width.Double)) None))

-- DL, DR, DW, DD and DB
abbrev pub data_letters : ℕ → Option Letters
data_letters c =
    cond (c == 76) (Some (Data part.Left))
    (cond (c == 82) (Some (Data part.Right))
    (cond (c == 87) (Some (Data part.Word))
    (cond (c == 68) (Some (Data part.Double))
    (cond (c == 66) (Some DataBlock) None))))

-- KB and KD
abbrev pub constant_letters : ℕ → Option Letters
constant_letters c = cond (c == 66) (Some Byte) (cond (c == 68) (Some Double) None)

-- OB, PB and FB
abbrev pub block_letters : BlockKind → ℕ → Option Letters
block_letters k c = cond (c == 66) (Some (Block k)) None

-- E, A, M with a width, D with a part or B, K with a size, and the kinds of blocks
abbrev pub two_letters : ℕ → ℕ → Option Letters
two_letters c d =
    cond (c == 69) (span_letters Input d)
    (cond (c == 65) (span_letters Output d)
    (cond (c == 77) (span_letters Flag d)
    (cond (c == 68) (data_letters d)
    (cond (c == 75) (constant_letters d)
    (cond (c == 79) (block_letters Organisation d)
    (cond (c == 80) (block_letters Program d)
    (cond (c == 70) (block_letters Function d) None)))))))

-- a word of one or two letters
unfoldable pub letters_of : List ℕ → Option Letters
letters_of bs =
    cond (length bs == 1) (one_letter (slice_index bs 0))
    (cond (length bs == 2) (two_letters (slice_index bs 0) (slice_index bs 1)) None)
