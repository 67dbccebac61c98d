use Rattle.std.proofs.Common.{map}
use Rattle.projects.specs.Sections.{seen_section}
use Rattle.verdicts.specs.Loading.{held}
use Rattle.verdicts.proofs.Paging.{all_granted}
use Rattle.verdicts.proofs.pages.cut_page.Goals as goal

pub returns-in-Ok : goal.returns-in-Ok
returns-in-Ok c =
    let cs = map seen_section c.args.sections.now in
    record { value = all_granted c.judged_page.result (held c.in_ok-store.store) (held c.load.new.store) cs c.args.file.now c.in_ok-store.ensures.value c.in-Ok.ensures.value c.in-Ok.ensures.after c.judged_page.ensures.value }
