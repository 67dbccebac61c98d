use Rattle.std.proofs.Common.{rules, tests, arith}
use Rattle.std.proofs.lemmas.Bool.Decides.{nat_tests}
use Rattle.std.proofs.lemmas.Iterator.Search.{all_from_yields_List}
use Rattle.std.proofs.lemmas.Iterator.Consumers.{YieldsList-from_first}
use Rattle.lines.specs.Lines.{lines_of}
use Rattle.hosts.specs.Frames.{well_formed}
use Rattle.hosts.proofs.Forming.{all_formed}
use Rattle.hosts.proofs.frames.accepted.Goals as goal

pub returns-then-not-is_empty : goal.returns-then-not-is_empty
returns-then-not-is_empty c =
    record {
      value = all_formed c.args.text.now c.all.result (grind (arith, nat_tests, c.if-not-is_empty.ensures)) (all_from_yields_List well_formed c.all.new.self _ c.all.result c.all.ensures.ran (YieldsList-from_first (λ x. x.now) lines_of (lines_of c.args.text.now) cc) (λ x b q k. search (rules, tests)));
    }
