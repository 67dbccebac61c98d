-- What is told as which answer. It assumes nothing.
use Rattle.std.specs.Prelude.{ℕ, Bool, true, false, Some, None, Ok, Err, Option, Result}
use Rattle.awl.specs.declared.refusals.Refusal.{Refusal}
use Rattle.answers.specs.declared.Answer.{Answer}
use Rattle.answers.specs.declared.Answer.TheVariants.{Done, Yes, No, Number, Nothing, Refused}

-- yes or no
abbrev pub yes_no : Bool → Answer
yes_no true = Yes
yes_no false = No

-- ok, or refused N
abbrev pub told : Result (Unit {0}) Refusal → Answer
told (Ok x) = Done
told (Err r) = Refused r

-- the number, or none
abbrev pub word_told : Option ℕ → Answer
word_told None = Nothing
word_told (Some n) = Number n
