-- The lines of a text, and what stands in a line: its code, its colon, its mark. It assumes nothing.
use Rattle.std.specs.Prelude.{ℕ, ◌+◌, Bool, cond, ◌&&◌, List, length, take, Some, None, Ok, Err, Option, Result, nat_lt}
use Rattle.std.specs.List.{prefix_len}
pub use Rattle.lines.specs.Lines.{lines_of, prepend}
use Rattle.awl.specs.Alphabet.{in_class}
use Rattle.awl.specs.MarkText.{is_mark}
use Rattle.awl.specs.declared.bytes.ByteClass.TheVariants.{Printable, InLine, Space, BeforeComment, BeforeColon}
use Rattle.parser.specs.Answers.{and_then, map_err}
use Rattle.lexer.specs.Words.{Piece, word_from, past, is_missing, fault_at}
use Rattle.lexer.specs.declared.faults.WordKind.TheVariants as kind
use Rattle.lexer.specs.declared.faults.WordFault.{WordFault}
use Rattle.reader.specs.declared.faults.LineFault.{LineFault}
use Rattle.reader.specs.declared.faults.LineFault.TheVariants.{Byte, Colon, Word}
use Rattle.lexer.specs.declared.words.LineEnd.{LineEnd}

-- the bytes up to the first byte 10
abbrev pub first_line : List ℕ → List ℕ
first_line text = take (prefix_len (in_class InLine) text) text

-- what stands before the comment
abbrev pub code_of : List ℕ → List ℕ
code_of line = take (prefix_len (in_class BeforeComment) line) line

-- whether a line holds a statement: anything but spaces stands before the comment
abbrev pub holds : List ℕ → Bool
holds line = nat_lt (prefix_len (in_class Space) (code_of line)) (length (code_of line))

-- a line's number, and the column behind its last byte, comment included
abbrev pub line_end : ℕ → List ℕ → LineEnd
line_end n line = record { line = n; column = length line + 1 }

-- every byte of a line is 32 to 126, comment included
abbrev pub sound : {X : Type 0} → ℕ → List ℕ → X → Result X LineFault
sound n line x =
    let good = prefix_len (in_class Printable) line in
    cond (nat_lt good (length line)) (Err (Byte n (good + 1))) (Ok x)

-- the mark before the colon, if any: one word, and a mark
unfoldable pub mark_before : LineEnd → List ℕ → Result (Option Piece) WordFault
mark_before e before =
    let first = word_from before 1 in
    cond (is_missing first) (Ok None)
    (cond (is_missing (word_from before (past first)) && is_mark first.bytes) (Ok (Some first))
    (Err (fault_at e kind.Mark first)))

-- a line's mark, and the column behind its colon
pub record Head : Type 0 where
  pub mark : Option Piece
  pub behind : ℕ

-- the first colon before the comment parts the mark from the words
unfoldable pub head_of : ℕ → List ℕ → Result Head LineFault
head_of n line =
    let code = code_of line in
    let colon = prefix_len (in_class BeforeColon) code in
    cond (nat_lt colon (length code))
    (and_then (map_err Word (mark_before (line_end n line) (take colon code))) (λ m. Ok (record { mark = m; behind = colon + 2 })))
    (Err (Colon n (length line + 1)))
