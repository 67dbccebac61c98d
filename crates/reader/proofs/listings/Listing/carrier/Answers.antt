use Rattle.std.proofs.Common.{◌+◌, map, ap, ◌∙◌, rules, tests}
use Rattle.std.proofs.lemmas.Iterator.{YieldsList-from_slice}
use Rattle.std.proofs.lemmas.Iterator.Search.{position_from_yields_List}
use Rattle.std.specs.Option.{option_map}
use Rattle.awl.specs.Written.{mark_text}
use Rattle.reader.specs.Listed.{entry}
use Rattle.reader.specs.Reading.{carries_mark, carrier}
use Rattle.reader.proofs.Carrying.{found_mapped, carrier_position}
use Rattle.reader.proofs.listings.Listing.carrier.Goals as goal

pub returns : goal.returns
returns c =
    let mark = mark_text c.args.mark.now in
    let lines = c.lines.result.now in
    record {
      value =
          found_mapped _ (λ i. i + 1) c.position.result c.map.result c.map.ensures.cases (λ i j h. search rules)
          ∙ ap (option_map (λ i. i + 1)) (position_from_yields_List (λ l. carries_mark (option_map mark_text l.mark) mark) _ _ c.position.result c.position.ensures.ran (YieldsList-from_slice lines cc) (λ x b q k. search (rules, tests)))
          ∙ carrier_position lines mark
          ∙ ap (λ ls. carrier (map entry ls) mark) c.lines.ensures.value;
    }
