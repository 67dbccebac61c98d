use Rattle.std.proofs.Common.{◌≡◌, ◌∷◌, rules, length, sym, ap, ◌∙◌}
use Rattle.lines.specs.Lines.{lines_of}
use Rattle.lines.proofs.Cutting.{line_taken}
use Rattle.lines.proofs.LinesIterator.next.Goals as goal

-- what comes, in front of the lines of what is left
came : (c : goal.After-self-2) → lines_of c.args.self.now ≡ c.split_at.result.0.now ∷ lines_of c.self-2.inside.rest.now
came c =
    ap lines_of (sym c.self.view_is)
    ∙ line_taken _ _ _ _ _ c.if-is_empty.ensures c.size_of_line.ensures.value c.split_at.ensures.front c.split_at.ensures.back (c.self-2.view_is ∙ c.of.ensures.value ∙ c.without_first.ensures.value)

pub returns-clause-steps : goal.returns-clause-steps
returns-clause-steps c = came c

pub returns-clause-goes : goal.returns-clause-goes
returns-clause-goes c = let fewer = ap length (came c) in search rules
