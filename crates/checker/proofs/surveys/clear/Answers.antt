use Rattle.std.proofs.Common.{◌++◌, List, drop, replicate, ap, ◌∙◌, rules}
use Rattle.std.proofs.lemmas.List.{length-take-le}
use Rattle.walk.specs.Places.{place_at}
use Rattle.walk.specs.declared.places.Place.{Place}
use Rattle.checker.proofs.surveys.clear.Goals as goal

pub returns : goal.returns
returns c =
    let long = length-take-le 1530 c.args.places.now c.requires in
    let zeros = c.fill.ensures.after (λ y same. search rules) in
    record { after = ap (λ (l : List Place). l ++ drop 1530 c.args.places.now) (zeros ∙ ap (λ n. replicate n (place_at 0 0)) long) }
