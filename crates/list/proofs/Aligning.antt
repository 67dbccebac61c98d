-- A number laid out to the right of a width. Assumes nothing.
use Rattle.std.proofs.Common.{◌≡◌, ℕ, ◌-◌, ◌^◌, Bool, true, false, cond, ◌&&◌, eqb, List, [], ◌++◌, length, decimal, sym, refl, ap, ◌∙◌, append-nil, arith}
use Rattle.std.specs.Fmt.{padded_integral, char_count, format_spec, styled_decimal}
use lib.Utf8.{encode}
use Rattle.std.proofs.lemmas.Bool.{eqb-true}
use Rattle.reports.specs.Shown.{spaces}
use Rattle.list.specs.Shown.{right_aligned}

filled : (p text after : List ℕ) → after ≡ [] → ((((p ++ []) ++ []) ++ []) ++ (text ++ after)) ≡ p ++ text
filled p text after e = rw e (simp append-nil)

pub laid_right : (w n : ℕ) → styled_decimal (format_spec 32 3 0 w (2 ^ 64 - 1)) n ≡ right_aligned w (decimal n)
unfolding padded_integral char_count encode
laid_right w n = go (eqb w 0) refl
  where
    go : (b : Bool) → eqb w 0 ≡ b → cond (b && true && true) (decimal n) (padded_integral (format_spec 32 3 0 w (2 ^ 64 - 1)) false [] (decimal n)) ≡ right_aligned w (decimal n)
    go true e = let z : w - length (decimal n) ≡ 0 = omega (arith, eqb-true w 0 e) in sym (ap (λ (k : ℕ). spaces k ++ decimal n) z)
    go false e =
        let pad = w - length (decimal n) in
        let same : w - length (decimal n) - 0 - 0 ≡ pad = omega arith in
        let none : w - length (decimal n) - 0 - 0 - (w - length (decimal n) - 0 - 0) ≡ 0 = omega arith in
        filled (spaces (w - length (decimal n) - 0 - 0)) (decimal n) (spaces (w - length (decimal n) - 0 - 0 - (w - length (decimal n) - 0 - 0))) (ap spaces none)
        ∙ ap (λ (k : ℕ). spaces k ++ decimal n) same
