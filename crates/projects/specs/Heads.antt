-- The head lines of a project file: which lines are heads, and what a head says. It assumes nothing.
use Rattle.std.specs.Prelude.{ℕ, ◌+◌, min, Bool, cond, List, length, drop, Some, None, Ok, Err, Option, Result, ◌==◌, nat_lt, slice_index}
use Rattle.std.specs.Option.{option_map}
use Rattle.std.specs.List.{prefix_len}
use Rattle.awl.specs.Alphabet.{in_class}
use Rattle.awl.specs.declared.bytes.ByteClass.TheVariants.{Printable, Space}
use Rattle.lexer.specs.Letters.{letters_of}
use Rattle.lexer.specs.Numbers.{number_of}
use Rattle.lexer.specs.Values.{byte_of}
use Rattle.lexer.specs.Words.{Piece, Pieces, is_missing, words_from}
use Rattle.lexer.specs.declared.letters.Letters.{Letters}
use Rattle.lexer.specs.declared.letters.Letters.TheVariants as letters
use Rattle.parser.specs.Answers.{and_then}
use Rattle.reader.specs.Lines.{code_of}
use Rattle.projects.specs.declared.heads.Head.{Head}
use Rattle.projects.specs.declared.heads.Head.TheVariants.{Block, Data}
use Rattle.projects.specs.declared.heads.HeadFault.{HeadFault}
use Rattle.projects.specs.declared.heads.HeadFlaw.{HeadFlaw}
use Rattle.projects.specs.declared.heads.HeadFlaw.TheVariants.{Byte, Kind, Number, Length, Extra}

-- a line is a head where its first byte that is no space is 42, a star
abbrev pub is_head : List ℕ → Bool
is_head line = slice_index (drop (prefix_len (in_class Space) line) line) 0 == 42

-- a flaw at a column
abbrev pub flaw_at : HeadFlaw → ℕ → HeadFault
flaw_at f c = record { flaw = f; column = c }

-- a word's flaw is told at its first byte, and that of a missing word behind the line's last byte
abbrev pub fault_of : HeadFlaw → ℕ → Piece → HeadFault
fault_of f end p = flaw_at f (cond (is_missing p) end p.column)

-- what a word has to be
abbrev pub expected : {X : Type 0} → HeadFlaw → ℕ → Piece → Option X → Result X HeadFault
expected f end p (Some x) = Ok x
expected f end p None = Err (fault_of f end p)

-- the length of a data block; what 16 bits cannot hold is 65535
abbrev pub length_of : List ℕ → Option ℕ
length_of bs = option_map (λ n. min n 65535) (number_of bs)

-- no word stands behind a head
abbrev pub ended : Head → Piece → Result Head HeadFault
ended h p = cond (is_missing p) (Ok h) (Err (flaw_at Extra p.column))

-- the head that letters make with the words behind them: a block with its number, a data block with number and length
abbrev pub head_named : ℕ → Pieces → Option Letters → Result Head HeadFault
head_named end w (Some (letters.Block k)) =
    and_then (expected Number end w.operand (byte_of w.operand.bytes)) (λ n.
    ended (Block (record { kind = k; number = n })) w.value)
head_named end w (Some letters.DataBlock) =
    and_then (expected Number end w.operand (byte_of w.operand.bytes)) (λ n.
    and_then (expected Length end w.value (length_of w.value.bytes)) (λ l.
    ended (Data n l) w.extra))
head_named end w (Some (letters.Area a)) = Err (fault_of Kind end w.operation)
head_named end w (Some letters.Timer) = Err (fault_of Kind end w.operation)
head_named end w (Some letters.Counter) = Err (fault_of Kind end w.operation)
head_named end w (Some (letters.Span a x)) = Err (fault_of Kind end w.operation)
head_named end w (Some (letters.Data p)) = Err (fault_of Kind end w.operation)
head_named end w (Some letters.Byte) = Err (fault_of Kind end w.operation)
head_named end w (Some letters.Double) = Err (fault_of Kind end w.operation)
head_named end w (Some letters.Jump) = Err (fault_of Kind end w.operation)
head_named end w None = Err (fault_of Kind end w.operation)

-- the words of a head line, the first of them behind the star
abbrev pub star_words : List ℕ → Pieces
star_words line = words_from (code_of line) (prefix_len (in_class Space) line + 2)

-- what a head line says: its bytes are looked at first, then the words behind its star
unfoldable pub head_of : List ℕ → Result Head HeadFault
head_of line =
    let good = prefix_len (in_class Printable) line in
    cond (nat_lt good (length line)) (Err (flaw_at Byte (good + 1)))
    (head_named (length line + 1) (star_words line) (letters_of (star_words line).operation.bytes))
