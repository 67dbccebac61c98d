-- Which words are a number, and which number. It assumes nothing.
use Rattle.std.specs.Prelude.{ℕ, cond, List, [], ◌∷◌, Some, None, Option, nat_le}
use Rattle.awl.specs.Digits.{number_from}

-- one digit or more and nothing else, leading zeros allowed
abbrev pub number_of : List ℕ → Option ℕ
number_of [] = None
number_of (b ∷ bs) = number_from 0 (b ∷ bs)

-- a number that its place can hold
abbrev pub at_most : ℕ → Option ℕ → Option ℕ
at_most most None = None
at_most most (Some n) = cond (nat_le n most) (Some n) None

-- the number that a word writes, if it is not above the most that its place holds
unfoldable pub number_within : ℕ → List ℕ → Option ℕ
number_within most bs = at_most most (number_of bs)
