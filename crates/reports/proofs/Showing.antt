-- What is shown: plain bytes, and texts by the bytes of their parts. Assumes nothing.
use Rattle.std.proofs.Common.{◌≡◌, ℕ, ◌<◌, ◌≤◌, List, map, length, get_or, IfOk, Ok, Err, string_bytes, Result, String, refl, ◌∙◌, ⊎_elim, arith, rules}
use Rattle.std.specs.declared.alloc.Global.{Global}
use Rattle.std.specs.Str.{IsAscii}
use Rattle.std.proofs.lemmas.Bool.{cases_lt}
use Rattle.std.proofs.lemmas.List.{get_or-map, get_or_past, length-map}
use Rattle.reports.specs.Shown.{shown_byte}

-- what is shown of a byte is one byte of text
pub shown_ascii : (b s : ℕ) → s ≡ shown_byte b → s < 128
shown_ascii b s e = search rules

-- what is shown of bytes is plain text
pub shown_all : (bytes : List ℕ) → IsAscii (map shown_byte bytes)
shown_all bytes i = ⊎_elim
    (λ (l : i < length bytes). let at = get_or-map shown_byte bytes i 0 0 l in let plain = shown_ascii (get_or bytes i 0) _ refl in omega arith)
    (λ (p : length bytes ≤ i). let none = get_or_past (map shown_byte bytes) i 0 (omega (arith, length-map bytes shown_byte)) in omega arith)
    (cases_lt i (length bytes))

-- a text that is made of some bytes is made of equal ones
pub made_equal : {E : Type 0} (r : Result (String Global) E) (a b : List ℕ) → a ≡ b → IfOk r (λ s. string_bytes s ≡ a) → IfOk r (λ s. string_bytes s ≡ b)
made_equal (Ok s) a b e h = h ∙ e
made_equal (Err x) a b e h = tt
