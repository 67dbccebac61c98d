use Rattle.std.proofs.Common.{◌≡◌, map, drop}
use Rattle.projects.specs.Sections.{seen_section}
use Rattle.verdicts.specs.Loading.{held, load_answer, load_after}
use Rattle.verdicts.proofs.loading.load.Given as goal

abbrev pub invariant-loop-section : goal.invariant-loop-section
invariant-loop-section l =
    (load_answer (held l.store) (map seen_section (drop l.section-index l.sections))
    ≡ load_answer (held l.initial.store) (map seen_section l.sections))
    × (load_after (held l.store) (map seen_section (drop l.section-index l.sections))
    ≡ load_after (held l.initial.store) (map seen_section l.sections))
