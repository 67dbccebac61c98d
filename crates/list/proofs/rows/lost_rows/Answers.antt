use Rattle.std.proofs.Common.{◌+◌, string_bytes, ap, ◌∙◌}
use Rattle.reader.specs.Listed.{entry}
use Rattle.reader.specs.declared.listings.Line.{Line}
use Rattle.list.specs.Rows.{lost_row}
use Rattle.list.proofs.Listing.{lost_more}
use Rattle.list.proofs.rows.lost_rows.Goals as goal

pub loop-index-preserved : goal.loop-index-preserved
loop-index-preserved c =
    lost_more c.lines-line-items.result.now c.loop-index.index c.line-item.result (string_bytes c.loop-index.rows) c.as_str.result.now (string_bytes c.push_str.new.self) c.loop-index-test.true (c.as_str.ensures.value ∙ c.in_ok-lost_row.ensures.value ∙ ap (λ (l : Line). lost_row (c.loop-index.index + 1) (entry l).statement) c.line-item.is) c.in_ok-push_str.ensures.bytes
    ∙ c.loop-index.invariant
