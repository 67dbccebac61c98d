use Rattle.std.proofs.Common.{rules, ◌≡◌, ◌+◌, true, false, eqb, length, get_or, map, drop, is_some, string_bytes, sym, ap, ◌∙◌, arith}
use Rattle.std.proofs.lemmas.Bool.{ltb-false}
use Rattle.std.proofs.lemmas.List.{length-take-le}
use Rattle.lines.specs.Lines.{lines_of}
use Rattle.reader.specs.Listed.{entry}
use Rattle.reader.specs.declared.listings.Line.{Line}
use Rattle.list.specs.Rows.{statement_row, statement_rows}
use Rattle.list.proofs.Listing.{rows_hit, rows_miss, rows_last, rows_done}
use Rattle.list.proofs.rows.statement_rows.Goals as goal
use Rattle.list.proofs.rows.statement_rows.Goals.{in_default-via-in-None-1, in_default-via-in-Some-get+else-stands_at, in-None, in-Some+in-Some-get+then-stands_at+in_ok-statement_row+in_ok-push_str+then-done-block}

pub loop-index-preserved-in-loop-index : goal.loop-index-preserved-in-loop-index
loop-index-preserved-in-loop-index c =
    let block = c.args.block.now in
    let room = block.room in
    let few = block.few in
    let xs = c.lines.result.now in
    let size : length xs ≡ block.count = ap length c.lines.ensures.value ∙ length-take-le block.count block.lines (omega arith) in
    let i = c.loop-index.done in
    let here = c.in-Some.ensures.steps in
    let found = c.in-Some-get.ensures.lookup in
    let inside = found.3.0 in
    let next = c.in-Some-get.next.now in
    let line = c.in-Some.line.now in
    let more = ap length here.0 in
    let n = c.loop-index.index-iterator.count + 1 in
    let stands : eqb (get_or xs i next).number n ≡ true = cc (found.1, here.1) in
    let hit = rows_hit xs i n next line (string_bytes c.loop-index.rows) c.as_str.result.now (string_bytes c.push_str.new.self) (lines_of c.loop-index.index-iterator.iter) (lines_of c.next.new.self.iter)
    inside here.0 stands
    (c.as_str.ensures.value ∙ c.in_ok-statement_row.ensures.value ∙ ap (λ (l : Line). statement_row (i + 1) (entry l) line) found.1)
    c.in_ok-push_str.ensures.bytes in
    (omega (arith, here.2), omega arith, cc (hit, here.2, c.lines.ensures.value, c.loop-index.invariant.2))

pub loop-index-preserved : goal.loop-index-preserved
loop-index-preserved c =
    let block = c.args.block.now in
    let room = block.room in
    let few = block.few in
    let xs = c.lines.result.now in
    let size : length xs ≡ block.count = ap length c.lines.ensures.value ∙ length-take-le block.count block.lines (omega arith) in
    let i = c.loop-index.done in
    let here = c.in-Some.ensures.steps in
    let more = ap length here.0 in
    let all = lines_of c.loop-index.index-iterator.iter in
    let rest = lines_of c.next.new.self.iter in
    let n = c.loop-index.index-iterator.count + 1 in
    let miss : statement_rows (drop i (map entry xs)) (n + 1) (i + 1) rest ≡ statement_rows (drop i (map entry xs)) n (i + 1) all =
    elim c.in_default.branch [
      | in_default-via-in-None-1 w ↦
          let none : is_some c.get.result ≡ false = cc in
          let past = ltb-false _ _ (sym c.get.ensures.lookup.0 ∙ none) in
          rows_done xs i (n + 1) rest past ∙ sym (rows_done xs i n all past)
      | in_default-via-in-Some-get+else-stands_at w ↦
          let found = w.in-Some-get.ensures.lookup in
          let next = w.in-Some-get.next.now in
          let stands : eqb (get_or xs i next).number n ≡ false = cc (found.1, here.1) in
          rows_miss xs i n next c.in-Some.line.now all rest found.3.0 here.0 stands
    ] in
    (omega (arith, here.2), omega arith, cc (miss, here.2, c.lines.ensures.value, c.loop-index.invariant.2))

pub returns : goal.returns
returns c = elim c.match-next.branch [
  | in-None w ↦ search rules
  | in-Some+in-Some-get+then-stands_at+in_ok-statement_row+in_ok-push_str+then-done-block w ↦
      let block = c.args.block.now in
      let room = block.room in
      let few = block.few in
      let xs = w.lines.result.now in
      let size : length xs ≡ block.count = ap length w.lines.ensures.value ∙ length-take-le block.count block.lines (omega arith) in
      let i = c.loop-index.done in
      let here = w.in-Some.ensures.steps in
      let found = w.in-Some-get.ensures.lookup in
      let line = w.in-Some.line.now in
      let n = c.loop-index.index-iterator.count + 1 in
      let stands : eqb (get_or xs i w.in-Some-get.next.now).number n ≡ true = cc (found.1, here.1, w.stands_at.ensures.value, w.if-stands_at.true) in
      let last = rows_last xs i n w.in-Some-get.next.now line (string_bytes c.loop-index.rows) w.as_str.result.now (string_bytes w.push_str.new.self) (lines_of c.loop-index.index-iterator.iter) (lines_of c.next.new.self.iter)
      found.3.0 here.0 stands
      (w.as_str.ensures.value ∙ w.in_ok-statement_row.ensures.value ∙ ap (λ (l : Line). statement_row (i + 1) (entry l) line) found.1)
      w.in_ok-push_str.ensures.bytes (omega (arith, size, w.if-done-block.true)) in
      record { value = cc (last, w.rows-is, w.lines.ensures.value, c.loop-index.invariant.2) }
]
