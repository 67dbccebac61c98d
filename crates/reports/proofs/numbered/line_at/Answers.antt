use Rattle.std.proofs.Common.{refl, ap}
use Rattle.std.proofs.lemmas.Iterator.Consumers.{YieldsList-from_first, nth_from_yields_List}
use Rattle.lines.specs.Lines.{lines_of}
use Rattle.reports.proofs.Lining.{line_or_none}
use Rattle.reports.proofs.numbered.line_at.Goals as goal

pub returns : goal.returns
returns c =
    let lines = lines_of c.args.text.now in
    let found = nth_from_yields_List c.nth.result c.nth.new.self c.args.index c.nth.ensures.ran (YieldsList-from_first _ lines_of lines (ap lines_of c.of.ensures.value)) in
    record { value = line_or_none c.nth.result lines c.args.index c.unwrap_or.result _ found c.unwrap_or.ensures refl }
