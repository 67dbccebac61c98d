use Rattle.std.proofs.Common.{map, refl}
use Rattle.std.proofs.lemmas.Result.{IfOk-weaker}
use Rattle.checker.specs.Verdicts.{is_pass}
use Rattle.projects.specs.Sections.{seen_section}
use Rattle.verdicts.specs.Loading.{held}
use Rattle.verdicts.specs.Pages.{Says, verdict_text, JudgedPage}
use Rattle.verdicts.proofs.pages.judged_page.Goals as goal

pub returns : goal.returns
returns c =
    let j = c.judge-judged.result in
    let cs = map seen_section c.args.sections.now in
    let file = c.args.file.now in
    record {
      value = IfOk-weaker c.verdict_page.result (λ p. Says p (verdict_text j cs file) (is_pass j.verdict)) (λ p. JudgedPage p (held c.args.store.now) cs file) (λ p says. (j, c.judge-judged.ensures.value, c.judge-judged.ensures.count, (c.args.store.now, refl, c.judge-judged.ensures.walked), says)) c.verdict_page.ensures.value;
    }
