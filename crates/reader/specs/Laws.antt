-- The laws of reading, in the words of its subject. It assumes nothing.
use Rattle.std.specs.Prelude.{◌≡◌, ℕ, ◌+◌, ◌-◌, ◌<◌, ◌≤◌, false, cond, ◌⊎◌, List, [], ◌∷◌, ◌++◌, map, length, Some, Result, MatchOption, ◌≢◌, nat_lt, slice_index_or}
use Rattle.std.specs.List.{prefix_len}
use Rattle.awl.specs.Alphabet.{in_class}
use Rattle.awl.specs.Reach.{free_bytes, bytes_of, words_of}
use Rattle.awl.specs.Written.{Operand, none, bit, span, timer, counter, data_place, byte_constant, double_constant, mark, block, data_block}
use Rattle.awl.specs.declared.bytes.ByteClass.TheVariants.{Printable}
use Rattle.lexer.specs.declared.faults.WordFault.{WordFault}
use Rattle.parser.specs.Answers.{map_ok, map_err}
use Rattle.reader.specs.Lines.{lines_of, holds}
use Rattle.reader.specs.Reading.{Entry, reading}
use Rattle.reader.specs.declared.faults.LineFault.{LineFault}
use Rattle.reader.specs.declared.faults.LineFault.TheVariants.{Byte, Colon, Word}
use Rattle.reader.specs.declared.faults.BlockFault.{BlockFault}
use Rattle.reader.specs.declared.faults.BlockFault.TheVariants.{Line, MarkTwice, Full, Empty}

-- the place that an operand names is one that operands may touch
abbrev pub InRange : Operand → Type 0
InRange none = Unit {0}
InRange (bit a n y) = (n + 1 ≤ free_bytes a) × (y ≤ 7)
InRange (span a w n) = n + bytes_of w ≤ free_bytes a
InRange (timer n) = n ≤ 63
InRange (counter n) = n ≤ 63
InRange (data_place p n) = n + words_of p ≤ 256
InRange (byte_constant n) = Unit {0}
InRange (double_constant z) = Unit {0}
InRange (mark m) = Unit {0}
InRange (block k n) = Unit {0}
InRange (data_block n) = Unit {0}

-- the statement t, counted from 1, carries the mark
abbrev pub Carries : List Entry → List ℕ → ℕ → Type 0
Carries es m t = (1 ≤ t) × (t ≤ length es) × ((d : Entry) → (slice_index_or es (t - 1) d).mark ≡ Some m)

-- no statement carries the mark
abbrev pub NoneCarries : List Entry → List ℕ → Type 0
NoneCarries es m = (i : ℕ) (d : Entry) → i < length es → (slice_index_or es i d).mark ≢ Some m

-- what holds of the statements of every block that is read
pub record Lawful (es : List Entry) : Type 0 where
  -- there are 1 to 255 statements
  pub some : 1 ≤ length es
  pub few : length es ≤ 255
  -- no two statements carry one mark
  pub once : (i j : ℕ) (d : Entry) (m : List ℕ) → i < j → j < length es → (slice_index_or es i d).mark ≡ Some m → (slice_index_or es j d).mark ≢ Some m
  -- a jump's target carries its mark, and where it has none no statement does
  pub aimed : (i : ℕ) (d : Entry) (m : List ℕ) → i < length es → (slice_index_or es i d).statement.operand ≡ mark m → MatchOption (slice_index_or es i d).statement.target (NoneCarries es m) (Carries es m)
  -- only a statement that names a mark has a target
  pub plain : (i t : ℕ) (d : Entry) → i < length es → (slice_index_or es i d).statement.target ≡ Some t → (m : List ℕ) × ((slice_index_or es i d).statement.operand ≡ mark m)
  -- every place named is in its range
  pub ranged : (i : ℕ) (d : Entry) → i < length es → InRange (slice_index_or es i d).statement.operand

-- a fault with its line counted another way
abbrev pub word_at : (ℕ → ℕ) → WordFault → WordFault
word_at f w = record { kind = w.kind; flaw = w.flaw; line = f w.line; column = w.column }

-- the same for a line's fault
abbrev pub line_at : (ℕ → ℕ) → LineFault → LineFault
line_at f (Byte l c) = Byte (f l) c
line_at f (Colon l c) = Colon (f l) c
line_at f (Word w) = Word (word_at f w)

-- and for a block's; that of no statement has no line
abbrev pub block_at : (ℕ → ℕ) → BlockFault → BlockFault
block_at f (Line l) = Line (line_at f l)
block_at f (MarkTwice l c) = MarkTwice (f l) c
block_at f (Full l) = Full (f l)
block_at f Empty = Empty

-- a statement with its line counted another way
abbrev pub entry_at : (ℕ → ℕ) → Entry → Entry
entry_at f e = record { line = f e.line; mark = e.mark; statement = e.statement }

-- a reading with its lines counted another way, and nothing else changed
abbrev pub renumbered : (ℕ → ℕ) → Result (List Entry) BlockFault → Result (List Entry) BlockFault
renumbered f r = map_err (block_at f) (map_ok (map (entry_at f)) r)

-- lines behind the first k move down by one
abbrev pub moved_down : ℕ → ℕ → ℕ
moved_down k n = cond (nat_lt k n) (n + 1) n

-- nothing, or lines that each end at their byte 10
abbrev pub WholeLines : List ℕ → Type 0
WholeLines text = (text ≡ []) ⊎ ((front : List ℕ) × (text ≡ front ++ 10 ∷ []))

-- a blank line or a line with only a comment: printable bytes, and nothing but spaces before any comment
abbrev pub Idle : List ℕ → Type 0
Idle line = (prefix_len (in_class Printable) line ≡ length line) × (holds line ≡ false)

-- a blank or comment line put in anywhere moves the numbers of the lines behind it, and nothing else
abbrev pub IdleLinesOnlyMove : Type 0
IdleLinesOnlyMove =
    (before line behind : List ℕ) → WholeLines before → Idle line
    → reading (before ++ (line ++ 10 ∷ behind)) ≡ renumbered (moved_down (length (lines_of before))) (reading (before ++ behind))
