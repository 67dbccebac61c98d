-- Texts in rows of six that are filled up with zeros. Assumes nothing.
use Rattle.std.proofs.Common.{◌≡◌, ℕ, ◌-◌, ◌≤◌, Bool, true, false, ◌&&◌, List, length, take, drop, replicate, sym, refl, ap, ◌∙◌, arith}
use Rattle.std.specs.Bool.{◌==◌}
use Rattle.std.specs.Str.{bytes_eq}
use Rattle.std.proofs.lemmas.Bool.Decides.{Decides-eqb}
use Rattle.std.proofs.lemmas.List.{length-take-le, take-append-drop}
use Rattle.std.proofs.lemmas.Slice.Eq.{bytes_eq-Decides}

-- rows of one text are one
row_of : (a b : List ℕ) (s t : ℕ) → length a ≡ 6 → length b ≡ 6 → s ≤ 6 → t ≤ 6 → drop s a ≡ replicate (6 - s) 0 → drop t b ≡ replicate (6 - t) 0 → take s a ≡ take t b → (a ≡ b) × (s ≡ t)
row_of a b s t la lb ls lt za zb e =
    let ka = length-take-le s a (omega arith) in
    let kb = length-take-le t b (omega arith) in
    let n : s ≡ t = sym ka ∙ (ap length e ∙ kb) in
    let zeros = ap (λ (k : ℕ). replicate {A = ℕ} (6 - k) 0) n in
    let whole_a = take-append-drop s a in
    let whole_b = take-append-drop t b in
    (cc, n)

agree : (r x : Bool) → (r ≡ true → x ≡ true) → (x ≡ true → r ≡ true) → r ≡ x
agree true x f g = sym (f refl)
agree false true f g = g refl
agree false false f g = refl

both : (p q : Bool) → p && q ≡ true → (p ≡ true) × (q ≡ true)
both true q e = (refl, e)
both false q e = let z : ◌≡◌ {A = Bool} false true = e in cc

-- rows and sizes are equal exactly where the texts are
pub texts_equal : (a b : List ℕ) (s t : ℕ) → length a ≡ 6 → length b ≡ 6 → s ≤ 6 → t ≤ 6 → drop s a ≡ replicate (6 - s) 0 → drop t b ≡ replicate (6 - t) 0 → (bytes_eq a b && s == t) ≡ bytes_eq (take s a) (take t b)
texts_equal a b s t la lb ls lt za zb =
    let rows = bytes_eq-Decides a b in
    let sizes = Decides-eqb s t in
    let texts = bytes_eq-Decides (take s a) (take t b) in
    agree (bytes_eq a b && s == t) (bytes_eq (take s a) (take t b))
    (λ e. let p = both (bytes_eq a b) (s == t) e in let ea = rows.0 p.0 in let es = sizes.0 p.1 in texts.1 (cc))
    (λ e. let p = row_of a b s t la lb ls lt za zb (texts.0 e) in let ea = rows.1 p.0 in let es = sizes.1 p.1 in cc)
