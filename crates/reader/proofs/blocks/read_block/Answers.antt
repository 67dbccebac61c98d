use Rattle.std.proofs.Common.{Ok, ap, ◌∙◌, arith, rules}
use Rattle.reader.specs.Listed.{listed}
use Rattle.reader.specs.Reading.{reading}
use Rattle.reader.proofs.Carrying.{listed_size}
use Rattle.reader.proofs.Lining.{read_none, read_some}
use Rattle.reader.proofs.blocks.read_block.Goals as goal

pub returns-in_err-listing : goal.returns-in_err-listing
unfolding reading
returns-in_err-listing c = search rules

pub returns-then-listing-eq0 : goal.returns-then-listing-eq0
returns-then-listing-eq0 c =
    let l = c.in_ok-listing.listing in
    record { value = read_none c.args.text.now (listed l.lines l.count) c.in_ok-listing.ensures.value (listed_size l ∙ c.if-listing-eq0.true) }

pub returns : goal.returns
returns c =
    let l = c.in_ok-listing.listing in
    let some = read_some c.args.text.now (listed l.lines l.count) c.in_ok-listing.ensures.value (λ e. c.if-listing-eq0.false (omega (arith, listed_size l))) in
    record { value = ap Ok c.resolved_lines-lines.ensures.value ∙ some }
