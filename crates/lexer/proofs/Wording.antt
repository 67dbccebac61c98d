-- A word as it is cut from a line: the code's cut is the definition's. Assumes nothing.
use Rattle.std.proofs.Common.{◌≡◌, ℕ, ◌+◌, ◌-◌, ◌≤◌, List, length, take, drop, ap, arith, length-drop, length-take}
use Rattle.std.specs.List.{prefix_len}
use Rattle.awl.specs.Alphabet.{in_class}
use Rattle.awl.specs.declared.bytes.ByteClass.TheVariants.{Space, Ink}
use Rattle.lexer.specs.Words.{Piece, word_in}

-- `n - 0` is how the checker writes the end of a part `[0..n]`
pub word_made : (rest word : List ℕ) (c s n : ℕ) → s ≡ prefix_len (in_class Space) rest → word ≡ drop s rest → n ≡ prefix_len (in_class Ink) word → (let w : Piece = record { bytes = take (n - 0) word; column = c + s } in w ≡ word_in rest c)
unfolding word_in
word_made rest word c s n e f g = let z : n - 0 ≡ n = omega arith in cc

-- a word ends where its line does, or before
pub word_within : (rest word : List ℕ) (c s n : ℕ) → s ≤ length rest → word ≡ drop s rest → n ≤ length word → (c + s) + length (take (n - 0) word) ≤ c + length rest
word_within rest word c s n h f g = omega (arith, ap length f, length-drop s rest, length-take (n - 0) word)
