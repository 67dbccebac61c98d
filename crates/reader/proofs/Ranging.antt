-- Every place that a statement names is in its range: its type says so. Assumes nothing.
use Rattle.std.proofs.Common.{◌≡◌, ℕ, zero, suc, ◌<◌, List, [], ◌∷◌, map, length, get_or, take, IfOk, Ok, Err, Result, sym, arith}
use Rattle.awl.specs.Written.{operand_of, query_operand, source_operand, coded_operand, destination_operand}
use Rattle.awl.specs.declared.statements.Query.{Query}
use Rattle.awl.specs.declared.statements.Query.TheVariants as query
use Rattle.awl.specs.declared.statements.Source.{Source}
use Rattle.awl.specs.declared.statements.Source.TheVariants as source
use Rattle.awl.specs.declared.statements.CodedSource.{CodedSource}
use Rattle.awl.specs.declared.statements.CodedSource.TheVariants as coded
use Rattle.awl.specs.declared.statements.Destination.{Destination}
use Rattle.awl.specs.declared.statements.Destination.TheVariants as destination
use Rattle.awl.specs.declared.statements.Statement.{Statement}
use Rattle.awl.specs.declared.statements.Statement.TheVariants.{Combine, OrBefore, Open, Close, Set, Reset, Assign, Load, LoadCoded, Transfer, Start, Count, Calculate, Compare, Jump, Call, End, ChooseData, Stop}
use Rattle.reader.specs.Laws.{InRange, Lawful}
use Rattle.reader.specs.Listed.{entry, listed}
use Rattle.reader.specs.Reading.{Entry, reading}
use Rattle.reader.specs.declared.listings.Line.{Line}
use Rattle.reader.specs.declared.listings.Block.{Block}
use Rattle.reader.specs.declared.faults.BlockFault.{BlockFault}
use Rattle.parser.specs.Answers.{map_ok}
use Rattle.reader.proofs.Lawfulness.{Ranged, reading_lawful}

query_ranged : (q : Query) → InRange (query_operand q)
query_ranged (query.Bit b) = (b.free, b.weighted)
query_ranged (query.Timer t) = t.few
query_ranged (query.Counter z) = z.few

source_ranged : (s : Source) → InRange (source_operand s)
source_ranged (source.Span s) = s.free
source_ranged (source.Data d) = d.within
source_ranged (source.Byte n) = tt
source_ranged (source.Double z) = tt
source_ranged (source.Timer t) = t.few
source_ranged (source.Counter z) = z.few

coded_ranged : (s : CodedSource) → InRange (coded_operand s)
coded_ranged (coded.Timer t) = t.few
coded_ranged (coded.Counter z) = z.few

destination_ranged : (d : Destination) → InRange (destination_operand d)
destination_ranged (destination.Span s) = s.free
destination_ranged (destination.Data d) = d.within

statement_ranged : (s : Statement) → InRange (operand_of s)
statement_ranged (Combine c q) = query_ranged q
statement_ranged OrBefore = tt
statement_ranged (Open b) = tt
statement_ranged Close = tt
statement_ranged (Set b) = (b.free, b.weighted)
statement_ranged (Reset x) = query_ranged x
statement_ranged (Assign b) = (b.free, b.weighted)
statement_ranged (Load s) = source_ranged s
statement_ranged (LoadCoded s) = coded_ranged s
statement_ranged (Transfer d) = destination_ranged d
statement_ranged (Start k t) = t.few
statement_ranged (Count d z) = z.few
statement_ranged (Calculate a) = tt
statement_ranged (Compare c) = tt
statement_ranged (Jump c t) = tt
statement_ranged (Call c b) = tt
statement_ranged (End e) = tt
statement_ranged (ChooseData n) = tt
statement_ranged Stop = tt

lines_ranged : (ls : List Line) (i : ℕ) (d : Entry) → i < length (map entry ls) → InRange (get_or (map entry ls) i d).statement.operand
lines_ranged [] i d h = absurd (omega arith)
lines_ranged (l ∷ ls) zero d h = statement_ranged l.statement
lines_ranged (l ∷ ls) (suc i) d h = lines_ranged ls i d (omega arith)

pub listed_ranged : (ls : List Line) (n : ℕ) → Ranged (listed ls n)
listed_ranged ls n = lines_ranged (take n ls)

-- a block that is read keeps the laws of reading
pub block_lawful : (text : List ℕ) (r : Result Block BlockFault) → map_ok (λ (b : Block). listed b.lines b.count) r ≡ reading text → IfOk r (λ b. Lawful (listed b.lines b.count))
block_lawful text (Ok b) e = reading_lawful text (listed b.lines b.count) (sym e) (listed_ranged b.lines b.count)
block_lawful text (Err f) e = tt
