-- A number, digit by digit. Assumes nothing.
use Rattle.std.proofs.Common.{◌≡◌, ℕ, ◌+◌, ◌-◌, ◌*◌, ◌^◌, ◌<◌, ◌≤◌, true, false, eqb, List, length, Option, sym, ◌∙◌, pow-suc, add-one, arith}
use Rattle.std.proofs.lemmas.Bool.Decides.{nat_tests}
use Rattle.awl.specs.Alphabet.{is_digit}
use Rattle.awl.proofs.Digits.{digit_small}
use Rattle.awl.specs.Digits.{number_from}
use Rattle.lexer.specs.Numbers.{number_of}

-- i digits make a number below 10 ^ i
pub digit_bound : (b i n : ℕ) → n < 10 ^ i → is_digit b ≡ true → n * 10 + (b - 48) < 10 ^ (i + 1)
digit_bound b i n h d = rw add-one (rw pow-suc (omega (arith, digit_small b d)))

-- one to ten bytes are read digit by digit
pub counted : (xs : List ℕ) (o : Option ℕ) → false ≡ eqb (length xs) 0 → length xs ≤ 10 → o ≡ number_from 0 xs → o ≡ number_of xs
counted xs o h g e = e ∙ sym (grind (arith, nat_tests))
