-- A number, digit by digit. Assumes nothing.
use Rattle.std.proofs.Common.{◌≡◌, ℕ, ◌+◌, ◌-◌, ◌*◌, ◌<◌, ◌≤◌, Bool, true, false, cond, List, length, get_or, drop, Some, None, ap, ◌∙◌, arith}
use Rattle.std.proofs.lemmas.List.{at_drop_more, at_drop_all}
use Rattle.std.proofs.lemmas.Bool.Decides.{nat_tests}
use Rattle.awl.specs.Alphabet.{is_digit}
use Rattle.awl.specs.Digits.{number_from}

-- a digit more is read
pub digit_more : (xs : List ℕ) (i n : ℕ) → i < length xs → is_digit (get_or xs i 0) ≡ true → number_from n (drop i xs) ≡ number_from (n * 10 + (get_or xs i 0 - 48)) (drop (i + 1) xs)
digit_more xs i n h d =
    at_drop_more (number_from n) xs i 0 h
    ∙ ap (λ (b : Bool). cond b (number_from (n * 10 + (get_or xs i 0 - 48)) (drop (i + 1) xs)) None) d

-- a byte that is none ends it with no number
pub digit_none : (xs : List ℕ) (i n : ℕ) → i < length xs → is_digit (get_or xs i 0) ≡ false → number_from n (drop i xs) ≡ None
digit_none xs i n h d =
    at_drop_more (number_from n) xs i 0 h
    ∙ ap (λ (b : Bool). cond b (number_from (n * 10 + (get_or xs i 0 - 48)) (drop (i + 1) xs)) None) d

-- behind the last the number is what was read
pub digit_end : (xs : List ℕ) (i n : ℕ) → length xs ≤ i → number_from n (drop i xs) ≡ Some n
digit_end xs i n h = at_drop_all (number_from n) xs i h

pub digit_small : (b : ℕ) → is_digit b ≡ true → b ≤ 57
digit_small b d = grind (arith, nat_tests)
