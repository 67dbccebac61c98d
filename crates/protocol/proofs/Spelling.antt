-- Bytes in hexadecimal, two digits at a time. Assumes nothing.
use Rattle.std.proofs.Common.{◌≡◌, ℕ, ◌≤◌, List, [], ◌∷◌, ◌++◌, length, get_or, take, drop, ◌-◌, Some, None, Option, sym, refl, ap, ◌∙◌, append_assoc, arith}
use Rattle.std.specs.Option.{option_map}
use Rattle.std.proofs.lemmas.List.{take_rest}
use Rattle.protocol.specs.Hex.{hex_digit, hex_byte, in_front, hex_bytes}

-- the bytes read so far stand in front of those still to be read
abbrev pub behind : List ℕ → List ℕ → Option (List ℕ)
behind read digits = option_map (λ bs. read ++ bs) (hex_bytes digits)

moved : (read : List ℕ) (b : ℕ) (o : Option (List ℕ)) → option_map (λ bs. read ++ bs) (in_front (Some b) o) ≡ option_map (λ bs. (read ++ b ∷ []) ++ bs) o
moved read b None = refl
moved read b (Some bs) = ap Some (sym (append_assoc read (b ∷ []) bs))

-- two digits more; `take (length ds - 2)` is how the checker writes the part behind two bytes
pub byte_more : (ds read new : List ℕ) (b : ℕ) → 2 ≤ length ds → Some b ≡ hex_byte (hex_digit (get_or ds 0 0)) (hex_digit (get_or ds 1 0)) → new ≡ read ++ b ∷ [] → behind new (take (length ds - 2) (drop 2 ds)) ≡ behind read ds
byte_more [] read new b h e n = absurd (omega arith)
byte_more (x ∷ []) read new b h e n = absurd (omega arith)
byte_more (x ∷ y ∷ ds) read new b h e n =
    ap (behind new) (take_rest (x ∷ y ∷ ds) 2)
    ∙ ap (λ (bs : List ℕ). behind bs ds) n
    ∙ sym (ap (λ (o : Option ℕ). option_map (λ bs. read ++ bs) (in_front o (hex_bytes ds))) (sym e) ∙ moved read b (hex_bytes ds))
