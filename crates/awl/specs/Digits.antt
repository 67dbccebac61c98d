-- The number that decimal digits write. It assumes nothing.
use Rattle.std.specs.Prelude.{ℕ, ◌+◌, ◌-◌, ◌*◌, cond, List, [], ◌∷◌, Some, None, Option}
use Rattle.awl.specs.Alphabet.{is_digit}

-- the digits behind those that made n
abbrev pub number_from : ℕ → List ℕ → Option ℕ
number_from n [] = Some n
number_from n (b ∷ bs) = cond (is_digit b) (number_from (n * 10 + (b - 48)) bs) None
