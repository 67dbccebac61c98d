-- Which lines are heads, and what a head says. Assumes nothing.
use Rattle.std.proofs.Common.{◌≡◌, ℕ, ◌+◌, ◌≤◌, Bool, cond, List, length, Err, Result, sym, ap, ◌∙◌, le-ltb}
use Rattle.std.specs.List.{prefix_len}
use Rattle.awl.specs.Alphabet.{in_class}
use Rattle.awl.specs.declared.bytes.ByteClass.TheVariants.{Printable}
use Rattle.lexer.specs.Letters.{letters_of}
use Rattle.lexer.specs.Words.{Pieces}
use Rattle.projects.specs.Heads.{flaw_at, head_named, star_words, head_of}
use Rattle.projects.specs.declared.heads.Head.{Head}
use Rattle.projects.specs.declared.heads.HeadFault.{HeadFault}
use Rattle.projects.specs.declared.heads.HeadFlaw.TheVariants.{Byte}

-- a head line whose bytes are all printable is what its words say
pub head_sound : (line : List ℕ) (words : Pieces) → length line ≤ prefix_len (in_class Printable) line → words ≡ star_words line → head_named (length line + 1) words (letters_of words.operation.bytes) ≡ head_of line
unfolding head_of
head_sound line words h e =
    let said : Result Head HeadFault = head_named (length line + 1) (star_words line) (letters_of (star_words line).operation.bytes) in
    let fault : Result Head HeadFault = Err (flaw_at Byte (prefix_len (in_class Printable) line + 1)) in
    ap (λ (w : Pieces). head_named (length line + 1) w (letters_of w.operation.bytes)) e
    ∙ sym (ap (λ (b : Bool). cond b fault said) (le-ltb (prefix_len (in_class Printable) line) (length line) h))
