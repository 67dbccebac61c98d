use Rattle.std.proofs.Common.{◌≡◌}
use Rattle.std.proofs.lemmas.Result.{IfOk-from_err}
use Rattle.verdicts.specs.Loading.{held}
use Rattle.verdicts.specs.Pages.{empty}
use Rattle.verdicts.proofs.pages.new_store.Goals as goal

pub returns-in_err-words : goal.returns-in_err-words
returns-in_err-words c =
    record { value = IfOk-from_err c.from_residual-in_err-words.result (λ s. held s ≡ empty) c.from_residual-in_err-words.ensures.0 }
