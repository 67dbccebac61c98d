-- The lines of a text, one after another. Assumes nothing.
use Rattle.std.proofs.Common.{◌≡◌, ℕ, List, [], ◌∷◌, map, length, Ok, Err, Result, refl, ap, arith}
use Rattle.parser.specs.Answers.{map_ok, and_then}
use Rattle.reader.specs.Lines.{lines_of}
use Rattle.reader.specs.Reading.{Entry, lines_read, some_read, resolved, reading}
use Rattle.reader.specs.declared.faults.BlockFault.{BlockFault}
use Rattle.reader.specs.declared.faults.BlockFault.TheVariants.{Empty}

-- a text without a statement, and one with some
pub read_none : (text : List ℕ) (es : List Entry) → Ok es ≡ lines_read [] 1 (lines_of text) → length es ≡ 0 → Err Empty ≡ reading text
unfolding reading
read_none text [] r e = ap (λ (x : Result (List Entry) BlockFault). map_ok (λ (es : List Entry). map (resolved es) es) (and_then x some_read)) r
read_none text (x ∷ es) r e = absurd (omega arith)

pub read_some : (text : List ℕ) (es : List Entry) → Ok es ≡ lines_read [] 1 (lines_of text) → (length es ≡ 0 → ⊥) → Ok (map (resolved es) es) ≡ reading text
unfolding reading
read_some text [] r e = absurd (e refl)
read_some text (x ∷ es) r e = ap (λ (x : Result (List Entry) BlockFault). map_ok (λ (es : List Entry). map (resolved es) es) (and_then x some_read)) r
