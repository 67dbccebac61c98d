-- The words of a line: what a word is, which words stand behind the colon, and how a word's fault is told.
-- It assumes nothing.
use Rattle.std.specs.Prelude.{ℕ, ◌+◌, ◌-◌, Bool, cond, List, length, take, drop, ◌==◌}
use Rattle.std.specs.List.{prefix_len}
use Rattle.awl.specs.Alphabet.{in_class}
use Rattle.awl.specs.declared.bytes.ByteClass.TheVariants.{Space, Ink}
use Rattle.lexer.specs.declared.faults.WordKind.{WordKind}
use Rattle.lexer.specs.declared.faults.WordKind.TheVariants as kind
use Rattle.lexer.specs.declared.faults.Flaw.TheVariants.{Missing, Malformed}
use Rattle.lexer.specs.declared.faults.WordFault.{WordFault}
use Rattle.lexer.specs.declared.words.Part.{Part}
use Rattle.lexer.specs.declared.words.Word.{Word}
use Rattle.lexer.specs.declared.words.Word.TheVariants.{Mark, Operation, Operand, Number}
use Rattle.lexer.specs.declared.words.LineEnd.{LineEnd}
use Rattle.lexer.specs.declared.words.Words.{Words}

-- a part of a line: its bytes, and the column of the first, from 1
pub record Piece : Type 0 where
  pub bytes : List ℕ
  pub column : ℕ

-- a part of the code, by its bytes and its column
abbrev pub seen : Part → Piece
seen p = record { bytes = p.bytes.now; column = p.column }

-- a word, whatever it stands for, as a part of the line
abbrev pub seen_word : Word → Piece
seen_word (Mark p) = seen p
seen_word (Operation p) = seen p
seen_word (Operand p) = seen p
seen_word (Number p) = seen p

-- what a word stands for
abbrev pub kind_of : Word → WordKind
kind_of (Mark p) = kind.Mark
kind_of (Operation p) = kind.Operation
kind_of (Operand p) = kind.Operand
kind_of (Number p) = kind.Number

-- the bytes up to the next space
abbrev pub ink : List ℕ → List ℕ
ink bs = take (prefix_len (in_class Ink) bs) bs

-- the first word of what is left of a line from a column on: what stands behind the spaces, up to the next space
unfoldable pub word_in : List ℕ → ℕ → Piece
word_in rest c =
    let spaces = prefix_len (in_class Space) rest in
    record { bytes = ink (drop spaces rest); column = c + spaces }

-- the next word from a column on, the first byte of the line being column 1
abbrev pub word_from : List ℕ → ℕ → Piece
word_from code c = word_in (drop (c - 1) code) c

-- the column behind a part
abbrev pub past : Piece → ℕ
past p = p.column + length p.bytes

-- the first four words; no statement has more than three
pub record Pieces : Type 0 where
  pub operation : Piece
  pub operand : Piece
  pub value : Piece
  pub extra : Piece

-- the four words of the code, as parts of the line
abbrev pub seen_words : Words → Pieces
seen_words w =
    record { operation = seen w.operation; operand = seen w.operand; value = seen w.value; extra = seen w.extra }

-- the words from a column on, each from behind the last
abbrev pub words_from : List ℕ → ℕ → Pieces
words_from code c =
    let first = word_from code c in
    let second = word_from code (past first) in
    let third = word_from code (past second) in
    record { operation = first; operand = second; value = third; extra = word_from code (past third) }

-- a word without a byte is not there
abbrev pub is_missing : Piece → Bool
is_missing p = length p.bytes == 0

-- a word's fault is told at its first byte, and that of a missing word behind the line's last byte
abbrev pub fault_at : LineEnd → WordKind → Piece → WordFault
fault_at e k p =
    record {
      kind = k;
      flaw = cond (is_missing p) Missing Malformed;
      line = e.line;
      column = cond (is_missing p) e.column p.column;
    }
