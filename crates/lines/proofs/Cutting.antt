-- A text cut behind its first line. Assumes nothing.
use Rattle.std.proofs.Common.{◌≡◌, ℕ, suc, ◌+◌, ◌<◌, ◌≤◌, Bool, true, false, cond, not, ◌==◌, eqb, List, [], ◌∷◌, length, take, drop, sym, refl, ap, ◌∙◌, arith}
use Rattle.std.specs.List.{prefix_len}
use Rattle.std.proofs.lemmas.List.{drop-drop}
use Rattle.std.proofs.lemmas.List.Folds.{length-prefix_len}
use Rattle.lines.specs.Lines.{lines_of, prepend}

-- how many bytes stand before the first byte 10
abbrev pub size : List ℕ → ℕ
size t = prefix_len (λ b. not (b == 10)) t

-- a byte in front makes the first line longer, or stands alone
longer : (b : ℕ) (t : List ℕ) → (0 < length t → lines_of t ≡ take (size t) t ∷ lines_of (drop (size t + 1) t)) → prepend b (lines_of t) ≡ take (1 + size t) (b ∷ t) ∷ lines_of (drop (1 + size t + 1) (b ∷ t))
longer b [] cut = refl
longer b (c ∷ t) cut =
    let one : 1 + size (c ∷ t) ≡ suc (size (c ∷ t)) = omega arith in
    let two : 1 + size (c ∷ t) + 1 ≡ suc (size (c ∷ t) + 1) = omega arith in
    let rest = cut (omega arith) in
    ap (prepend b) rest ∙ sym (ap (λ (k : ℕ). take k (b ∷ c ∷ t) ∷ lines_of (drop (1 + size (c ∷ t) + 1) (b ∷ c ∷ t))) one ∙ ap (λ (k : ℕ). take (suc (size (c ∷ t))) (b ∷ c ∷ t) ∷ lines_of (drop k (b ∷ c ∷ t))) two)

-- the first line of a text, and the lines behind its byte 10
pub line_cut : (t : List ℕ) → 0 < length t → lines_of t ≡ take (size t) t ∷ lines_of (drop (size t + 1) t)
line_cut [] h = absurd (omega arith)
line_cut (b ∷ t) h = at (eqb b 10) (longer b t (line_cut t))
  where
    at : (e : Bool) → prepend b (lines_of t) ≡ take (1 + size t) (b ∷ t) ∷ lines_of (drop (1 + size t + 1) (b ∷ t)) → cond e ([] ∷ lines_of t) (prepend b (lines_of t)) ≡ take (cond (not e) (1 + size t) 0) (b ∷ t) ∷ lines_of (drop (cond (not e) (1 + size t) 0 + 1) (b ∷ t))
    at true l = refl
    at false l = l

-- the same, cut in steps: the bytes of the line, and what stands behind them without its byte 10
pub line_taken : (t line behind rest : List ℕ) (n : ℕ) → false ≡ (length t == 0) → n ≡ length (take (size t) t) → line ≡ take n t → behind ≡ drop n t → rest ≡ drop 1 behind → lines_of t ≡ line ∷ lines_of rest
line_taken [] line behind rest n e k l b r = let z : ◌≡◌ {A = Bool} false true = e in cc
line_taken (c ∷ t) line behind rest n e k l b r =
    let s : n ≡ size (c ∷ t) = k ∙ length-prefix_len (λ b. not (b == 10)) (c ∷ t) in
    let joined = drop-drop 1 n (c ∷ t) in
    let cut = line_cut (c ∷ t) (omega arith) in
    cc

prepend_few : (b : ℕ) (ls : List (List ℕ)) → length (prepend b ls) ≤ length ls + 1
prepend_few b [] = omega arith
prepend_few b (l ∷ ls) = omega arith

-- a text has no more lines than bytes
pub lines_few : (t : List ℕ) → length (lines_of t) ≤ length t
lines_few [] = omega arith
lines_few (b ∷ t) = at (b == 10) (lines_few t)
  where
    at : (e : Bool) → length (lines_of t) ≤ length t → length (cond e ([] ∷ lines_of t) (prepend b (lines_of t))) ≤ length (b ∷ t)
    at true h = omega arith
    at false h = omega (arith, prepend_few b (lines_of t))
