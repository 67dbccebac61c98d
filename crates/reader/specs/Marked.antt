-- A line's head as the code holds it, seen as the definition has it. It assumes nothing.
use Rattle.std.specs.Prelude.{ℕ, List, Option}
use Rattle.std.specs.Option.{option_map}
use Rattle.awl.specs.Written.{mark_text}
use Rattle.reader.specs.Lines.{Head}
use Rattle.lexer.specs.Words.{Piece, Pieces, seen_words, words_from}
use Rattle.reader.specs.declared.heads.Head.{Head as HeadCode}
use Rattle.reader.specs.declared.heads.PlacedMark.{PlacedMark}

-- a mark with its column, as a part of the line
abbrev pub placed_seen : PlacedMark → Piece
placed_seen p = record { bytes = mark_text p.mark; column = p.column }

-- a line parted at its colon: its mark, and the words behind
pub record Parted : Type 0 where
  pub mark : Option Piece
  pub words : Pieces

-- the words behind the colon stand in the line's code from the column of its head on
abbrev pub parted : List ℕ → Head → Parted
parted code h = record { mark = h.mark; words = words_from code h.behind }

-- the same as the code holds it
abbrev pub head_seen : HeadCode → Parted
head_seen h = record { mark = option_map placed_seen h.mark; words = seen_words h.words }
