-- A block's lines written into a slot of the table. Assumes nothing.
use Rattle.std.proofs.Common.{◌≡◌, ℕ, ◌*◌, ◌<◌, ◌≤◌, List, length, drop, set, Some, vec_items, vec_len, sym, ap, ◌∙◌, subst, arith}
use lib.Seq.{paste}
use Rattle.std.proofs.lemmas.List.{length-map}
use Rattle.awl.specs.declared.names.BlockName.{BlockName}
use Rattle.awl.specs.declared.statements.Statement.{Statement}
use Rattle.reader.specs.Laws.{Lawful}
use Rattle.reader.specs.Listed.{listed}
use Rattle.reader.specs.declared.listings.Block.{Block}
use Rattle.reader.specs.declared.listings.Line.{Line}
use Rattle.store.specs.Calls.{statements_of}
use Rattle.store.specs.Runs.{statement_lines}
use Rattle.store.specs.Held.{name_at, text_at, spare_statements}
use Rattle.store.specs.Slots.{name_in, place_in, statements_in, is_readable, Single, Emptied, Small, AllReadable}
use Rattle.store.specs.declared.slots.Slot.{Slot}
use Rattle.store.specs.declared.store.Store.{Store}
use Rattle.store.proofs.Changing.{name_put, name_kept, single_set, emptied_set, small_set, readable_set, text_kept, text_put}
use Rattle.store.proofs.Naming.{none_named}
use Rattle.store.proofs.Pasting.{paste_behind}
use Rattle.store.proofs.Placing.{place_is, place_within, place_only}
use Rattle.store.proofs.Spelling.{lines_spelled, lawful_readable}

-- the lines have room in the slot
record Roomy (ss : List Slot) (i : ℕ) (table : List Statement) (lines : List Line) (count : ℕ) : Type 0 where
  within : i < 32
  slots : length ss ≡ 32
  room : 8160 ≤ length table
  all : length lines ≡ 255
  few : count ≤ 255
  small : Small ss

-- the slot of a block
abbrev pub slot_for : BlockName → ℕ → Slot
slot_for m count = record { name = Some m; size = count }

-- the table with the lines written into the slot
abbrev pub stored : ℕ → List Statement → List Line → ℕ → List Statement
stored i table lines count = paste table (i * 255) (statement_lines lines) count

run_length : (lines : List Line) → length (statement_lines lines) ≡ length lines
run_length lines = length-map lines (λ (l : Line). l.statement)

stored_text : (ss : List Slot) (i : ℕ) (m : BlockName) (table : List Statement) (lines : List Line) (count : ℕ) → Roomy ss i table lines count → statements_in (set ss i (slot_for m count)) (stored i table lines count) i ≡ statements_of (listed lines count)
stored_text ss i m table lines count r =
    let size = run_length lines in
    text_put ss i (slot_for m count) table (statement_lines lines) (omega (arith, r.slots, r.within)) (omega (arith, r.room, r.within)) (omega (arith, r.all, r.few))
    ∙ lines_spelled lines count

stored_kept : (ss : List Slot) (i j : ℕ) (s : Slot) (table : List Statement) (lines : List Line) (count : ℕ) → Roomy ss i table lines count → (j ≡ i → ⊥) → statements_in (set ss i s) (stored i table lines count) j ≡ statements_in ss table j
stored_kept ss i j s table lines count r ne =
    let size = run_length lines in
    text_kept ss i j s table (statement_lines lines) count r.small (omega (arith, r.room, r.within)) (omega (arith, r.all, r.few)) r.few ne

stored_readable : (ss : List Slot) (i : ℕ) (m : BlockName) (table : List Statement) (lines : List Line) (count : ℕ) → Roomy ss i table lines count → AllReadable ss table → Lawful (listed lines count) → AllReadable (set ss i (slot_for m count)) (stored i table lines count)
stored_readable ss i m table lines count r readable law =
    readable_set ss i (slot_for m count) table (stored i table lines count) (omega (arith, r.slots, r.within)) readable
    (λ j ne. stored_kept ss i j (slot_for m count) table lines count r ne)
    (λ n e. ap is_readable (stored_text ss i m table lines count r) ∙ lawful_readable (listed lines count) law)

-- the entries that no block can have stay
stored_spare : (ss : List Slot) (i : ℕ) (table : List Statement) (lines : List Line) (count : ℕ) → Roomy ss i table lines count → drop 8160 (stored i table lines count) ≡ drop 8160 table
stored_spare ss i table lines count r =
    let size = run_length lines in
    paste_behind table (i * 255) (statement_lines lines) count 8160 (omega (arith, r.room, r.within)) (omega (arith, r.all, r.few)) (omega (arith, r.within, r.few))

-- what holds of a store's slots and its statement table with the lines in their place
pub record Seated (s : Store) (m : BlockName) (i : ℕ) (b : Block) (table : List Statement) : Type 0 where
  pub single : Single (set s.slots i (slot_for m b.count))
  pub emptied : Emptied (set s.slots i (slot_for m b.count))
  pub small : Small (set s.slots i (slot_for m b.count))
  pub readable : AllReadable (set s.slots i (slot_for m b.count)) table
  pub named : name_in (set s.slots i (slot_for m b.count)) i ≡ Some m
  pub text : statements_in (set s.slots i (slot_for m b.count)) table i ≡ statements_of (listed b.lines b.count)
  pub others : (j : ℕ) → (j ≡ i → ⊥) → (name_in (set s.slots i (slot_for m b.count)) j ≡ name_at s j) × (statements_in (set s.slots i (slot_for m b.count)) table j ≡ text_at s j)
  pub spare : drop 8160 table ≡ spare_statements s

-- a place is one of the 32 slots
pub place_low : (s : Store) (m : BlockName) (i : ℕ) → place_in s.slots m ≡ Some i → i < 32
place_low s m i h = omega (arith, place_within s.slots m i (place_is s.slots m i h), s.slot_count)

pub seated : (s : Store) (m : BlockName) (i : ℕ) (b : Block) (table : List Statement) → place_in s.slots m ≡ Some i → Lawful (listed b.lines b.count) → length (vec_items s.statements) ≡ vec_len s.statements → table ≡ stored i (vec_items s.statements) b.lines b.count → Seated s m i b table
seated s m i b table h law size e =
    let ss = s.slots in
    let old = vec_items s.statements in
    let slot = slot_for m b.count in
    let place = place_is ss m i h in
    let low = place_within ss m i place in
    let room : Roomy ss i old b.lines b.count = record {
      within = place_low s m i h;
      slots = s.slot_count;
      room = omega (arith, s.statement_room);
      all = b.room;
      few = b.few;
      small = s.small;
    } in
    let moved : (j : ℕ) → statements_in (set ss i slot) table j ≡ statements_in (set ss i slot) (stored i old b.lines b.count) j = λ j. ap (λ (t : List Statement). statements_in (set ss i slot) t j) e in
    record {
      single = single_set ss i slot low s.single (λ j n f g. place_only ss m i j s.single place (g ∙ sym f));
      emptied = emptied_set ss i slot low s.emptied (λ f. absurd (none_named m (sym f)));
      small = small_set ss i slot low s.small b.few;
      readable = subst (AllReadable (set ss i slot)) (sym e) (stored_readable ss i m old b.lines b.count room s.readable law);
      named = name_put ss i slot low;
      text = moved i ∙ stored_text ss i m old b.lines b.count room;
      others = λ j ne. (name_kept ss i j slot ne, moved j ∙ stored_kept ss i j slot old b.lines b.count room ne);
      spare = ap (drop 8160) e ∙ stored_spare ss i old b.lines b.count room;
    }
