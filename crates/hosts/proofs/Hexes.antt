-- The numbers that digits write fit the digits.
use Rattle.std.proofs.Common.{◌≡◌, ℕ, zero, suc, ◌+◌, ◌*◌, ◌^◌, ◌<◌, ◌≤◌, List, length, get_or, take, drop, refl, ap, zero-add, ◌∙◌, pow-suc, add-one, arith, lit<}
use native.Mathlib.Nat.{pow-le-pow_right}
use Rattle.std.proofs.lemmas.List.{get_or-take, get_or-drop, length-take, length-drop}
use Rattle.hosts.specs.Frames.{digit, hex}

pub hex_none : (line : List ℕ) (from : ℕ) → hex line from 0 ≡ 0
unfolding hex
hex_none line from = refl

pub hex_more : (line : List ℕ) (from k : ℕ) → hex line from (k + 1) ≡ hex line from k * 16 + digit (get_or line (from + k) 0)
unfolding hex
hex_more line from k = rw add-one

-- one more digit, and the number stays below one more power
pub power_more : (n d k : ℕ) → n < 16 ^ k → d < 16 → n * 16 + d < 16 ^ (k + 1)
power_more n d k h e = rw (add-one, pow-suc) (omega arith)

-- up to eight digits fit 32 bits
pub fits_more : (n d k : ℕ) → n < 16 ^ k → d < 16 → k < 8 → n * 16 + d < 2 ^ 32
fits_more n d k h e small =
    let next = power_more n d k h e in
    let few : k + 1 ≤ 8 = omega arith in
    let most : 16 ^ (k + 1) ≤ 16 ^ 8 = pow-le-pow_right (lit< tt) few in
    omega arith

same_digits : (xs ys : List ℕ) (from k : ℕ) → ((i : ℕ) → i < k → get_or xs (0 + i) 0 ≡ get_or ys (from + i) 0) → hex xs 0 k ≡ hex ys from k
unfolding hex
same_digits xs ys from zero same = refl
same_digits xs ys from (suc k) same =
    let before = same_digits xs ys from k (λ i h. same i (omega arith)) in
    let last = ap digit (same k (omega arith)) in
    cc

-- the digits of a part of a line
pub hex_part : (line : List ℕ) (from n : ℕ) → from + n ≤ length line → hex (take n (drop from line)) 0 (length (take n (drop from line))) ≡ hex line from n
hex_part line from n h =
    let part = take n (drop from line) in
    let long : length part ≡ n = simp (length-take, length-drop) (omega arith) in
    ap (hex part 0) long ∙ same_digits part line from n (λ i g. rw zero-add (get_or-take n (drop from line) i 0 g ∙ get_or-drop from line i 0))
