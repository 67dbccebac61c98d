-- The rows of a listing. It assumes nothing.
use Rattle.std.specs.Prelude.{ℕ, ◌+◌, cond, List, [], ◌∷◌, ◌++◌, map, Some, None, codes, decimal, Option, ◌==◌}
use Rattle.awl.specs.Written.{Operand, none, bit, span, timer, counter, data_place, byte_constant, double_constant, mark, block, data_block}
use Rattle.parser.specs.Statements.{Written}
use Rattle.reader.specs.Reading.{Entry}
use Rattle.reports.specs.Shown.{shown_byte}
use Rattle.list.specs.Shown.{right_aligned, mark_cell}
use Rattle.list.specs.Typed.{typed}

-- statement number in three columns, line number in five, mark in six, and the statement as its line has it
abbrev pub statement_row : ℕ → Entry → List ℕ → List ℕ
statement_row number e line =
    right_aligned 3 (decimal number)
    ++ (codes " " ++ (right_aligned 5 (decimal e.line)
    ++ (codes " " ++ (mark_cell e.mark
    ++ (codes " " ++ (map shown_byte (typed line) ++ codes "\n"))))))

-- the rows of some statements, the first of them counted as s, beside the lines of a text, the first of number n:
-- a line has a row where the next statement was read from it
abbrev pub statement_rows : List Entry → ℕ → ℕ → List (List ℕ) → List ℕ
statement_rows es n s [] = []
statement_rows [] n s (line ∷ lines) = []
statement_rows (e ∷ es) n s (line ∷ lines) =
    cond (e.line == n)
    (statement_row s e line ++ statement_rows es (n + 1) (s + 1) lines)
    (statement_rows (e ∷ es) (n + 1) s lines)

-- the row of a jump to a mark, where no statement carries the mark
abbrev pub lost_target_row : ℕ → List ℕ → Option ℕ → List ℕ
lost_target_row number m (Some t) = []
lost_target_row number m None =
    codes "  statement " ++ (decimal number ++ (codes ": = " ++ (map shown_byte m ++ codes "\n")))

-- the row of a statement with an operand and a target: none unless the operand is a mark
abbrev pub lost_operand_row : ℕ → Operand → Option ℕ → List ℕ
lost_operand_row number none t = []
lost_operand_row number (bit a n y) t = []
lost_operand_row number (span a w n) t = []
lost_operand_row number (timer n) t = []
lost_operand_row number (counter n) t = []
lost_operand_row number (data_place p n) t = []
lost_operand_row number (byte_constant n) t = []
lost_operand_row number (double_constant z) t = []
lost_operand_row number (mark m) t = lost_target_row number m t
lost_operand_row number (block k n) t = []
lost_operand_row number (data_block n) t = []

abbrev pub lost_row : ℕ → Written → List ℕ
lost_row number s = lost_operand_row number s.operand s.target

-- the rows of such jumps among some statements, the first of them counted as s
abbrev pub lost_rows : ℕ → List Entry → List ℕ
lost_rows s [] = []
lost_rows s (e ∷ es) = lost_row s e.statement ++ lost_rows (s + 1) es
