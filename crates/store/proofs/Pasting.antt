-- A run of entries written into a table: one more, what stands in the run, and what stands outside. Assumes nothing.
use Rattle.std.proofs.Common.{◌≡◌, ℕ, ◌+◌, ◌-◌, ◌<◌, ◌≤◌, ◌⊎◌, List, length, get_or, take, drop, set, sym, ap, ◌∙◌, ap₂, inl, inr, add-one, arith}
use lib.Seq.{paste, paste-suc}
use Rattle.std.proofs.lemmas.List.Edits.{take-paste, drop-paste}
use Rattle.std.proofs.lemmas.List.{length-take-le, take-take, take-append-le, drop-take, drop-drop, drop_at}

pub paste_more : {A : Type 0} (d : List A) (at : ℕ) (s : List A) (j : ℕ) (z x : A) (t : List A) → at + j < length d → j < length s → t ≡ paste d at s j → get_or s j z ≡ x → set t (at + j) x ≡ paste d at s (j + 1)
paste_more {A = A} d at s j z x t h l e g =
    ap₂ (λ (u : List A) (y : A). set u (at + j) y) e (sym g) ∙ (paste-suc d at s j z h l ∙ ap (paste d at s) (sym (add-one j)))

pub paste_all : {A : Type 0} (d : List A) (at : ℕ) (s : List A) (j n : ℕ) (t : List A) → j ≤ n → n ≤ j → t ≡ paste d at s j → t ≡ paste d at s n
paste_all d at s j n t h k e = let same : j ≡ n = omega arith in e ∙ ap (paste d at s) same

-- what stands in the run
pub paste_inside : {A : Type 0} (d : List A) (at : ℕ) (s : List A) (n : ℕ) → at ≤ length d → n ≤ length s → take n (drop at (paste d at s n)) ≡ take n s
paste_inside d at s n h l =
    sym (drop-take at n (paste d at s n))
    ∙ (ap (drop at) (take-paste d at s n h l) ∙ drop_at (take at d) (take n s) at (length-take-le at d h))

-- what stands behind the run
pub paste_behind : {A : Type 0} (d : List A) (at : ℕ) (s : List A) (n a : ℕ) → at ≤ length d → n ≤ length s → at + n ≤ a → drop a (paste d at s n) ≡ drop a d
paste_behind {A = A} d at s n a h l g =
    let k : at + n + (a - (at + n)) ≡ a = omega arith in
    let moved : (xs : List A) → drop a xs ≡ drop (a - (at + n)) (drop (at + n) xs) = λ xs. sym (drop-drop (a - (at + n)) (at + n) xs ∙ ap (λ (m : ℕ). drop m xs) k) in
    moved (paste d at s n) ∙ (ap (drop (a - (at + n))) (drop-paste d at s n h l) ∙ sym (moved d))

-- what stands before the run
pub paste_before : {A : Type 0} (d : List A) (at : ℕ) (s : List A) (n m : ℕ) → at ≤ length d → n ≤ length s → m ≤ at → take m (paste d at s n) ≡ take m d
paste_before d at s n m h l g =
    let size = length-take-le at d h in
    sym (take-take m (at + n) (paste d at s n) (omega arith))
    ∙ (ap (take m) (take-paste d at s n h l)
    ∙ (take-append-le m (take at d) (take n s) (omega arith) ∙ take-take m at d g))

-- a part of the table that the run does not touch
pub paste_outside : {A : Type 0} (d : List A) (at : ℕ) (s : List A) (n a k : ℕ) → at ≤ length d → n ≤ length s → (a + k ≤ at) ⊎ (at + n ≤ a) → take k (drop a (paste d at s n)) ≡ take k (drop a d)
paste_outside d at s n a k h l (inl g) = sym (drop-take a k (paste d at s n)) ∙ (ap (drop a) (paste_before d at s n (a + k) h l g) ∙ drop-take a k d)
paste_outside d at s n a k h l (inr g) = ap (take k) (paste_behind d at s n a h l g)
