-- How numbers and marks are shown in a listing. It assumes nothing.
use Rattle.std.specs.Prelude.{ℕ, ◌-◌, List, [], ◌++◌, map, length, Some, None, Option}
use Rattle.reports.specs.Shown.{shown_byte, spaces}

-- spaces in front up to a width
abbrev pub right_aligned : ℕ → List ℕ → List ℕ
right_aligned width text = spaces (width - length text) ++ text

-- spaces behind up to a width
abbrev pub left_aligned : ℕ → List ℕ → List ℕ
left_aligned width text = text ++ spaces (width - length text)

-- a mark in six columns, blank where there is none
abbrev pub mark_cell : Option (List ℕ) → List ℕ
mark_cell None = left_aligned 6 []
mark_cell (Some m) = left_aligned 6 (map shown_byte m)
