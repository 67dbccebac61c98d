-- Which bytes are a number, and which number. It assumes nothing.
use Rattle.std.specs.Prelude.{ℕ, cond, ◌&&◌, List, length, drop, ℤ, pos, neg_ℤ, Some, None, Option, ◌==◌, nat_le, slice_index}
use Rattle.awl.specs.Digits.{number_from}

-- one to ten digits and nothing else, leading zeros counted
abbrev pub number_of : List ℕ → Option ℕ
number_of bs = cond (nat_le 1 (length bs) && nat_le (length bs) 10) (number_from 0 bs) None

-- down to -2147483648
abbrev pub negative_of : Option ℕ → Option ℤ
negative_of None = None
negative_of (Some n) = cond (nat_le n 2147483648) (Some (neg_ℤ (pos n))) None

-- up to 2147483647
abbrev pub positive_of : Option ℕ → Option ℤ
positive_of None = None
positive_of (Some n) = cond (nat_le n 2147483647) (Some (pos n)) None

-- a double word constant: 45 is the minus, directly before the digits
abbrev pub double_of : List ℕ → Option ℤ
double_of bs = cond (slice_index bs 0 == 45) (negative_of (number_of (drop 1 bs))) (positive_of (number_of bs))
