-- Bytes in hexadecimal. It assumes nothing.
use Rattle.std.specs.Prelude.{ℕ, ◌+◌, ◌-◌, ◌*◌, Bool, cond, ◌&&◌, List, [], ◌∷◌, length, Some, None, Option, ◌==◌, nat_le, slice_index}

-- 0 to 9 and a to f, in lower case alone
abbrev pub hex_digit : ℕ → Option ℕ
hex_digit c = cond (nat_le 48 c && nat_le c 57) (Some (c - 48)) (cond (nat_le 97 c && nat_le c 102) (Some (c - 87)) None)

-- a byte is two digits, the higher first
abbrev pub hex_byte : Option ℕ → Option ℕ → Option ℕ
hex_byte None low = None
hex_byte (Some h) None = None
hex_byte (Some h) (Some l) = Some (h * 16 + l)

-- a byte in front of others, where all of them are bytes
abbrev pub in_front : Option ℕ → Option (List ℕ) → Option (List ℕ)
in_front None bs = None
in_front (Some b) None = None
in_front (Some b) (Some bs) = Some (b ∷ bs)

-- two digits a byte, and no digit left over
abbrev pub hex_bytes : List ℕ → Option (List ℕ)
hex_bytes [] = Some []
hex_bytes (h ∷ []) = None
hex_bytes (h ∷ l ∷ ds) = in_front (hex_byte (hex_digit h) (hex_digit l)) (hex_bytes ds)

-- the word - , byte 45, is for no byte at all
abbrev pub is_dash : List ℕ → Bool
is_dash w = length w == 1 && slice_index w 0 == 45

-- the bytes of a word that is HEX; a word without a byte is none
unfoldable pub hex_of : List ℕ → Option (List ℕ)
hex_of w = cond (length w == 0) None (cond (is_dash w) (Some []) (hex_bytes w))
