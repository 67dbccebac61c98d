-- What is told, from its parts. Assumes nothing.
use Rattle.std.proofs.Common.{◌≡◌, ℕ, List, ◌++◌, codes}

-- a place, what is wrong there, and the line
pub placed : (p w t place words text : List ℕ) → p ≡ place → w ≡ words → t ≡ text → p ++ (codes ": " ++ (w ++ (codes "\n" ++ (t ++ codes "\n")))) ≡ place ++ (codes ": " ++ (words ++ (codes "\n" ++ (text ++ codes "\n"))))
placed p w t place words text e f g = cc
