-- The words of a line. It assumes nothing.
use Rattle.std.specs.Prelude.{ℕ, List, [], ◌==◌, slice_index_or}
use Rattle.std.specs.List.{slice_split}

-- each space, 32, parts two words; between two spaces, and at a space that stands first or last, is a word without a byte
unfoldable pub words_of : List ℕ → List (List ℕ)
words_of line = slice_split (λ b. b == 32) line

-- a word by its place, from 0; no bytes where there are fewer words
abbrev pub nth : List (List ℕ) → ℕ → List ℕ
nth ws n = slice_index_or ws n []
