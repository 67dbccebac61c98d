use Rattle.std.proofs.Common.{List, ◌++◌, replicate, ap, ◌∙◌}
use Rattle.walk.specs.Places.{place_at}
use Rattle.walk.specs.declared.places.Place.{Place}
use Rattle.checker.proofs.surveys.Survey.of.Goals as goal

pub returns-clause-after : goal.returns-clause-after
returns-clause-after c = c.clear.ensures.after ∙ ap (λ (l : List Place). replicate 1530 (place_at 0 0) ++ l) c.findings_of-findings.ensures.rest
