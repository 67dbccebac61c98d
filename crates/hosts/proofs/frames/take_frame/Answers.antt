use Rattle.std.proofs.Common.{◌≡◌, ◌∷◌, true, map, drop, sym, ap, ◌∙◌}
use Rattle.std.specs.List.{list_all}
use Rattle.std.proofs.lemmas.Bool.{and_parts}
use Rattle.std.proofs.lemmas.List.{take_rest}
use Rattle.lines.specs.Lines.{lines_of}
use Rattle.hosts.specs.Frames.{frame_of, well_formed}
use Rattle.hosts.proofs.Forming.{next_lines}
use Rattle.hosts.proofs.frames.take_frame.Goals as goal

pub returns : goal.returns
returns c =
    let text = c.args.text.now in
    let line = c.in_ok-line.line.now in
    let ahead : c.of.result ≡ drop c.args.at text = c.of.ensures.value ∙ c.in_ok-get.ensures.lookup.0.2 ∙ take_rest text c.args.at in
    let here : lines_of (drop c.args.at text) ≡ line ∷ lines_of c.next.new.self = ap lines_of (sym ahead) ∙ c.in_ok-line.ensures.steps in
    let left = next_lines text line (lines_of c.next.new.self) c.args.at here in
    let formed : list_all well_formed (line ∷ lines_of c.next.new.self) ≡ true = ap (list_all well_formed) (sym here) ∙ c.requires in
    record {
      value = ap (map frame_of) here ∙ ap (λ f. f ∷ map frame_of (lines_of c.next.new.self)) (sym c.frame_of.ensures.value) ∙ ap (λ ls. c.frame_of.result ∷ map frame_of ls) left;
      formed = ap (list_all well_formed) (sym left) ∙ (and_parts _ _ formed).1;
    }
