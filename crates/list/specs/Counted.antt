-- Which statements are counted at the end of a listing. It assumes nothing.
use Rattle.std.specs.Prelude.{ℕ, Bool, false, not, is_some, Option}
use Rattle.awl.specs.Written.{Operand, none, bit, span, timer, counter, data_place, byte_constant, double_constant, mark, block, data_block}
use Rattle.parser.specs.Statements.{Written}
use Rattle.reader.specs.Reading.{Entry}

-- a statement with a mark before it
abbrev pub is_marked : Entry → Bool
is_marked e = is_some e.mark

-- whether an operand is a mark without the statement that carries it
abbrev pub leads_nowhere : Operand → Option ℕ → Bool
leads_nowhere none t = false
leads_nowhere (bit a n y) t = false
leads_nowhere (span a w n) t = false
leads_nowhere (timer n) t = false
leads_nowhere (counter n) t = false
leads_nowhere (data_place p n) t = false
leads_nowhere (byte_constant n) t = false
leads_nowhere (double_constant z) t = false
leads_nowhere (mark m) t = not (is_some t)
leads_nowhere (block k n) t = false
leads_nowhere (data_block n) t = false

-- a jump whose mark no statement carries
abbrev pub is_lost_jump : Written → Bool
is_lost_jump s = leads_nowhere s.operand s.target

abbrev pub is_lost : Entry → Bool
is_lost e = is_lost_jump e.statement
