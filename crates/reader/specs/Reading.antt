-- The reading of a text: line after line into statements, then each jump to the statement that carries its mark.
-- It assumes nothing.
use Rattle.std.specs.Prelude.{ℕ, ◌+◌, Bool, false, cond, List, [], ◌∷◌, ◌++◌, map, length, is_some, Some, None, Ok, Err, Option, Result, nat_le}
use Rattle.std.specs.Option.{option_map, option_to_list}
use Rattle.std.specs.Str.{bytes_eq}
use Rattle.awl.specs.Written.{Operand, none, bit, span, timer, counter, data_place, byte_constant, double_constant, mark, block, data_block}
use Rattle.parser.specs.Answers.{map_ok, map_err, and_then}
use Rattle.reader.specs.Lines.{lines_of, code_of, holds, line_end, sound, head_of}
use Rattle.parser.specs.Statements.{Written, statement_of}
use Rattle.lexer.specs.Words.{Piece, words_from}
use Rattle.reader.specs.declared.faults.LineFault.TheVariants.{Word}
use Rattle.reader.specs.declared.faults.BlockFault.{BlockFault}
use Rattle.reader.specs.declared.faults.BlockFault.TheVariants.{Line, MarkTwice, Full, Empty}

-- a statement that was read: the number of its line, the bytes of its mark if it carries one, and what is written
pub record Entry : Type 0 where
  pub line : ℕ
  pub mark : Option (List ℕ)
  pub statement : Written

-- whether a statement carries a mark
abbrev pub carries_mark : Option (List ℕ) → List ℕ → Bool
carries_mark None m = false
carries_mark (Some k) m = bytes_eq k m

-- the first statement that carries a mark, the first of the list counted as n
abbrev pub carrier_from : ℕ → List Entry → List ℕ → Option ℕ
carrier_from n [] m = None
carrier_from n (e ∷ es) m = cond (carries_mark e.mark m) (Some n) (carrier_from (n + 1) es m)

-- the statement that carries a mark, from 1
abbrev pub carrier : List Entry → List ℕ → Option ℕ
carrier es m = carrier_from 1 es m

-- a mark may not stand at an earlier statement too
abbrev pub fresh_mark : List Entry → ℕ → Option Piece → Result (Unit {0}) BlockFault
fresh_mark es n None = Ok tt
fresh_mark es n (Some p) = cond (is_some (carrier es p.bytes)) (Err (MarkTwice n p.column)) (Ok tt)

-- the statement of a line: its bytes, its colon and mark, then whether the mark is new, then its words
unfoldable pub entry_of : List Entry → ℕ → List ℕ → Result Entry BlockFault
entry_of es n line =
    and_then (map_err Line (sound {X = Unit {0}} n line tt)) (λ _.
    and_then (map_err Line (head_of n line)) (λ h.
    and_then (fresh_mark es n h.mark) (λ _.
    and_then (map_err Line (map_err Word (statement_of (line_end n line) (words_from (code_of line) h.behind)))) (λ s.
    Ok (record { line = n; mark = option_map (λ p. p.bytes) h.mark; statement = s })))))

-- the statement of a line, or none: a 256th is refused before its line is looked at
unfoldable pub line_entry : List Entry → ℕ → List ℕ → Result (Option Entry) BlockFault
line_entry es n line =
    cond (holds line)
    (cond (nat_le 255 (length es)) (Err (Full n)) (map_ok Some (entry_of es n line)))
    (map_err Line (sound n line None))

-- one line more
abbrev pub line_read : List Entry → ℕ → List ℕ → Result (List Entry) BlockFault
line_read es n line = map_ok (λ o. es ++ option_to_list o) (line_entry es n line)

-- all lines, the first of them of number n
abbrev pub lines_read : List Entry → ℕ → List (List ℕ) → Result (List Entry) BlockFault
lines_read es n [] = Ok es
lines_read es n (line ∷ lines) = and_then (line_read es n line) (λ more. lines_read more (n + 1) lines)

-- no statement at all is refused
abbrev pub some_read : List Entry → Result (List Entry) BlockFault
some_read [] = Err Empty
some_read (e ∷ es) = Ok (e ∷ es)

-- where an operand leads: a mark to the statement that carries it
abbrev pub leads_to : List Entry → Operand → Option ℕ
leads_to es none = None
leads_to es (bit a n y) = None
leads_to es (span a w n) = None
leads_to es (timer n) = None
leads_to es (counter n) = None
leads_to es (data_place p n) = None
leads_to es (byte_constant n) = None
leads_to es (double_constant z) = None
leads_to es (mark m) = carrier es m
leads_to es (block k n) = None
leads_to es (data_block n) = None

-- a statement with its jump looked up
abbrev pub resolved : List Entry → Entry → Entry
resolved es e =
    record {
      line = e.line;
      mark = e.mark;
      statement =
          record {
            operation = e.statement.operation;
            operand = e.statement.operand;
            target = leads_to es e.statement.operand;
          };
    }

-- the statements of a text, or its first fault
unfoldable pub reading : List ℕ → Result (List Entry) BlockFault
reading text = map_ok (λ es. map (resolved es) es) (and_then (lines_read [] 1 (lines_of text)) some_read)
