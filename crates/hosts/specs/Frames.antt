-- The frames that a text of frame lines holds, and which texts are accepted. Assumes nothing.
use Rattle.std.specs.Prelude.{ℕ, zero, suc, ◌+◌, ◌-◌, ◌*◌, Bool, true, cond, ◌&&◌, ◌||◌, List, [], ◌∷◌, map, length, ◌==◌, nat_le, slice_index}
use Rattle.std.specs.List.{list_all}
use Rattle.lines.specs.Lines.{lines_of}
use Rattle.hosts.specs.declared.frames.Frame.{Frame}

-- The digits 0 to 9.
abbrev pub is_decimal : ℕ → Bool
is_decimal c = nat_le 48 c && nat_le c 57

-- The digits a to f, in lower case alone.
abbrev pub is_a_to_f : ℕ → Bool
is_a_to_f c = nat_le 97 c && nat_le c 102

-- The value of a hexadecimal digit; a byte that is none counts 0.
abbrev pub digit : ℕ → ℕ
digit c = cond (is_decimal c) (c - 48) (cond (is_a_to_f c) (c - 87) 0)

-- The number that so many digits of a line write, from a place on, the highest digit first.
unfoldable pub hex : List ℕ → ℕ → ℕ → ℕ
hex line from zero = 0
hex line from (suc k) = hex line from k * 16 + digit (slice_index line (from + k))

-- A byte is in place if it is the space at place 8, or a digit at any other place.
abbrev pub formed_byte : ℕ → ℕ → Bool
formed_byte place c = cond (place == 8) (c == 32) (is_decimal c || is_a_to_f c)

-- Each byte is in place, the first of them standing at this place.
abbrev pub formed_from : ℕ → List ℕ → Bool
formed_from place [] = true
formed_from place (c ∷ cs) = formed_byte place c && formed_from (place + 1) cs

-- A frame line has 17 bytes, each in place.
abbrev pub well_formed : List ℕ → Bool
well_formed line = length line == 17 && formed_from 0 line

-- A frame line has the milliseconds in its first eight digits, and after the space two digits for each of four inputs.
abbrev pub frame_of : List ℕ → Frame
frame_of line = record {
  elapsed = hex line 0 8;
  inputs = hex line 9 2 ∷ hex line 11 2 ∷ hex line 13 2 ∷ hex line 15 2 ∷ [];
}

-- A text's frames, line by line.
abbrev pub frames : List ℕ → List Frame
frames text = map frame_of (lines_of text)

-- A text is accepted if it has a line, and each of its lines is a frame line.
abbrev pub accepted : List ℕ → Bool
accepted text = nat_le 1 (length (lines_of text)) && list_all well_formed (lines_of text)
