-- The sections of a project file put into a store, one after another. It assumes nothing.
use Rattle.std.specs.Prelude.{ℕ, cond, List, [], ◌∷◌, is_ok, Ok, Result}
use Rattle.awl.specs.declared.refusals.Refusal.TheVariants as refusal
use Rattle.parser.specs.Answers.{and_then, map_err}
use Rattle.reader.specs.Reading.{reading}
use Rattle.projects.specs.Sections.{Cut}
use Rattle.projects.specs.declared.heads.Head.{Head}
use Rattle.projects.specs.declared.heads.Head.TheVariants.{Block, Data}
use Rattle.store.specs.Calls.{write_answer, blocks_written, count_written, lay_answer, data_laid, count_laid}
use Rattle.store.specs.Held.{Blocks, DataBlocks, blocks, block_count, data_blocks, data_count}
use Rattle.store.specs.declared.refusals.WriteRefusal.{WriteRefusal}
use Rattle.store.specs.declared.refusals.WriteRefusal.TheVariants as write
use Rattle.store.specs.declared.store.Store.{Store}
use Rattle.verdicts.specs.declared.loading.Cause.{Cause}
use Rattle.verdicts.specs.declared.loading.Cause.TheVariants.{Text, Whole}
use Rattle.verdicts.specs.declared.loading.Rejected.{Rejected}

-- what a store holds: blocks and data blocks, and how many
pub record Held : Type 0 where
  pub written : Blocks
  pub count : ℕ
  pub words : DataBlocks
  pub laid : ℕ

abbrev pub held : Store → Held
held s = record { written = blocks s; count = block_count s; words = data_blocks s; laid = data_count s }

-- a fault of the text, or no place for the block
abbrev pub write_cause : WriteRefusal → Cause
write_cause (write.Text f) = Text f
write_cause write.NoFreePlace = Whole refusal.NoFreePlace

-- a section that is refused
abbrev pub rejected : Head → ℕ → Cause → Rejected
rejected h line cause = record { head = h; line = line; cause = cause }

-- a block is written, a data block laid
abbrev pub put_head : Held → ℕ → List ℕ → Head → Result (Unit {0}) Rejected
put_head h line text (Block b) =
    map_err (λ w. rejected (Block b) line (write_cause w)) (write_answer h.written h.count b (reading text))
put_head h line text (Data n l) = map_err (λ r. rejected (Data n l) line (Whole r)) (lay_answer h.words h.laid n l)

abbrev pub put_answer : Held → Cut → Result (Unit {0}) Rejected
put_answer h c = put_head h c.line c.text c.head

-- what is held after that
abbrev pub held_after : Held → List ℕ → Head → Held
held_after h text (Block b) =
    record {
      written = blocks_written h.written h.count b (reading text);
      count = count_written h.written h.count b (reading text);
      words = h.words;
      laid = h.laid;
    }
held_after h text (Data n l) =
    record {
      written = h.written;
      count = h.count;
      words = data_laid h.words h.laid n l;
      laid = count_laid h.words h.laid n l;
    }

abbrev pub put_after : Held → Cut → Held
put_after h c = held_after h c.text c.head

-- the sections in their order, up to the first that is refused
unfoldable pub load_answer : Held → List Cut → Result (Unit {0}) Rejected
load_answer h [] = Ok tt
load_answer h (c ∷ cs) = and_then (put_answer h c) (λ _. load_answer (put_after h c) cs)

-- what is held after them
unfoldable pub load_after : Held → List Cut → Held
load_after h [] = h
load_after h (c ∷ cs) = cond (is_ok (put_answer h c)) (load_after (put_after h c) cs) (put_after h c)
