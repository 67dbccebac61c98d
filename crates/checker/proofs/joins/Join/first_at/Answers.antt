use Rattle.std.proofs.Common.{sym, ◌∙◌}
use Rattle.std.proofs.lemmas.Bool.Decides.{not_from_Decides}
use Rattle.checker.proofs.Fitting.{fit_at}
use Rattle.checker.proofs.Judging.{here-off, here_on}
use Rattle.checker.proofs.joins.Join.first_at.Goals as goal

pub first_in-requires : goal.first_in-requires
first_in-requires c =
    let named = sym c.name_at.ensures.value ∙ c.in-Some.is in
    record { of = c.requires.of c.in-Some.name named; fit = fit_at c.args.self.now.survey.now.store.now c.args.slot c.in-Some.name named }

pub returns-in-Some : goal.returns-in-Some
returns-in-Some c =
    let named = sym c.name_at.ensures.value ∙ c.in-Some.is in
    let deep = c.has-in-Some.ensures.value in
    record { value = here_on c.args.self.now.survey.now.store.now _ _ c.requires.reached c.requires.start c.args.slot c.in-Some.name c.has-in-Some.result c.first_in.result named (c.has.ensures.value.0 c.if-has.true) deep.0 deep.1 c.first_in.ensures.value }

pub returns-in_default : goal.returns-in_default
returns-in_default c =
    let named = sym c.name_at.ensures.value ∙ c.in-Some.is in
    record { value = here-off c.args.self.now.survey.now.store.now _ _ c.requires.reached c.requires.start c.args.slot c.in-Some.name named (not_from_Decides _ c.has.ensures.value c.if-has.false) }
