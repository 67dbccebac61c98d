-- A number, digit by digit, up to the most that its place holds. Assumes nothing.
use Rattle.std.proofs.Common.{◌≡◌, ℕ, ◌+◌, ◌-◌, ◌*◌, ◌<◌, ◌≤◌, Bool, true, false, cond, List, [], ◌∷◌, length, Some, None, sym, refl, ap, ◌∙◌, arith}
use Rattle.std.proofs.lemmas.Bool.{lt-leb, le-leb}
use Rattle.awl.specs.Alphabet.{is_digit}
use Rattle.awl.specs.Digits.{number_from}
use Rattle.protocol.specs.Numbers.{number_of, at_most, number_within}

-- more digits make no smaller number
pub too_much : (most n : ℕ) (xs : List ℕ) → most < n → at_most most (number_from n xs) ≡ None
too_much most n [] h = ap (λ (b : Bool). cond b (Some n) None) (lt-leb n most h)
too_much most n (x ∷ xs) h = here (is_digit x) (too_much most (n * 10 + (x - 48)) xs (omega arith))
  where
    here : (b : Bool) → at_most most (number_from (n * 10 + (x - 48)) xs) ≡ None → at_most most (cond b (number_from (n * 10 + (x - 48)) xs) None) ≡ None
    here true rest = rest
    here false rest = refl

-- what is not above the most is held
pub enough : (most n : ℕ) → n ≤ most → at_most most (Some n) ≡ Some n
enough most n h = ap (λ (b : Bool). cond b (Some n) None) (le-leb n most h)

-- a word with a byte is read from its first digit on
pub from_first : (xs : List ℕ) → 0 < length xs → number_of xs ≡ number_from 0 xs
from_first [] h = absurd (omega arith)
from_first (x ∷ xs) h = refl

pub no_digit : (xs : List ℕ) → length xs ≡ 0 → number_of xs ≡ None
no_digit [] h = refl
no_digit (x ∷ xs) h = absurd (omega arith)

-- digits that lead to no number, or to one above the most, are refused; a number is what its last digit leaves
pub refused_digits : (most : ℕ) (xs : List ℕ) → 0 < length xs → at_most most (number_from 0 xs) ≡ None → None ≡ number_within most xs
unfolding number_within
refused_digits most xs h e = sym (ap (at_most most) (from_first xs h) ∙ e)

pub accepted_digits : (most n : ℕ) (xs : List ℕ) → 0 < length xs → number_from 0 xs ≡ Some n → n ≤ most → Some n ≡ number_within most xs
unfolding number_within
accepted_digits most n xs h e l = sym (ap (at_most most) (from_first xs h ∙ e) ∙ enough most n l)
