use Rattle.std.proofs.Common.{ℕ, length, ◌&&◌, ◌∙◌, sym, ap, rules, tests}
use Rattle.std.proofs.lemmas.Bool.{eq-eqb}
use Rattle.std.proofs.lemmas.Iterator.{YieldsList-from_slice}
use Rattle.std.proofs.lemmas.Iterator.Search.{all_from_yields_List}
use Rattle.std.proofs.lemmas.Iterator.Consumers.{YieldsList-at, YieldsList-from_enumerate}
use Rattle.hosts.specs.Frames.{formed_byte, formed_from}
use Rattle.hosts.proofs.Forming.{formed_places}
use Rattle.hosts.proofs.frames.well_formed.Goals as goal

pub returns-then-line-eq17 : goal.returns-then-line-eq17
returns-then-line-eq17 c =
    let line = c.args.line.now in
    let all = all_from_yields_List (λ (p : ℕ × ℕ). formed_byte p.0 p.1) _ _ c.all.result c.all.ensures.ran (YieldsList-from_enumerate (YieldsList-at c.enumerate.ensures.source (YieldsList-from_slice line cc)) cc) (λ x b q k. search (rules, tests)) in
    record { value = all ∙ formed_places 0 line ∙ sym (ap (λ b. b && formed_from 0 line) (eq-eqb (length line) 17 c.if-line-eq17.true)) }
