-- Which of some things a word names. It assumes nothing.
use Rattle.std.specs.Prelude.{ℕ, cond, List, [], ◌∷◌, Some, None, Option}
use Rattle.std.specs.Str.{bytes_eq}

-- the first of some things whose name the bytes are
abbrev pub first_named : {X : Type 0} → (X → List ℕ) → List X → List ℕ → Option X
first_named name [] bs = None
first_named name (x ∷ xs) bs = cond (bytes_eq (name x) bs) (Some x) (first_named name xs bs)
