use Rattle.std.proofs.Common.{ℕ, List, Option, refl, subst}
use Rattle.answers.specs.declared.Answer.TheVariants.{Words}
use Rattle.project_desk.specs.Told.{WordsTold}
use Rattle.project_desk.proofs.calls.words.Goals as goal

pub returns : goal.returns
returns c =
    let v = c.in_ok-to_vec.field-0 in
    let copy = c.in_ok-to_vec.ensures.items_if_clones_equal (λ x y e. e) in
    record { value = subst (λ (o : Option (List ℕ)). WordsTold o (Words v)) c.in-Some.ensures.value (v, refl, copy) }
