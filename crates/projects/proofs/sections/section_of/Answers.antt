use Rattle.std.proofs.Common.{ap, ◌∙◌, rules, tests}
use Rattle.std.specs.Option.{option_map}
use Rattle.std.proofs.lemmas.Iterator.{YieldsList-from_slice}
use Rattle.std.proofs.lemmas.Iterator.Search.{find_from_yields_List}
use Rattle.projects.specs.Sections.{seen_section, names}
use Rattle.projects.specs.declared.sections.Section.{Section}
use Rattle.projects.proofs.Cutting.{named_found}
use Rattle.projects.proofs.sections.section_of.Goals as goal

pub returns : goal.returns
returns c =
    let found = find_from_yields_List (λ (s : Section). names s.head c.args.name) _ _ c.find.result c.find.ensures.ran (YieldsList-from_slice c.args.sections.now (cc)) (λ x r q k. search (rules, tests)) in
    record { value = ap (option_map seen_section) (c.copied.ensures ∙ found) ∙ named_found c.args.name c.args.sections.now }
