use Rattle.std.proofs.Common.{◌*◌, length, sym, refl, ap, ◌∙◌, arith, length-set}
use Rattle.store.specs.Runs.{statement_lines}
use Rattle.store.proofs.Placing.{place_is}
use Rattle.store.proofs.Seating.{seated-blocks, seated_count, same_data}
use Rattle.store.proofs.Spelling.{refilled_paste}
use Rattle.store.proofs.Storing.{slot_for, place_low, seated}
use Rattle.store.proofs.store.Store.seat.Goals as goal

pub put_block-requires : goal.put_block-requires
put_block-requires c =
    let s = c.args.self.now in
    let low = place_low s c.args.name c.args.slot c.requires.place in
    omega (arith, s.statement_room, c.args.block.now.few, c.deref_mut.ensures.len)

pub bounds-self-slot : goal.bounds-self-slot
bounds-self-slot c = place_low c.args.self.now c.args.name c.args.slot c.requires.place

pub invariant_of-self : goal.invariant_of-self
invariant_of-self c =
    let s = c.args.self.now in
    let i = c.args.slot in
    let b = c.args.block.now in
    let size = sym (ap length c.deref_mut.ensures.value) ∙ c.deref_mut.ensures.len in
    let after = refilled_paste s.statements c.deref_mut.result.now c.put_block.new.table (i * 255) (statement_lines b.lines) b.count c.deref_mut.ensures.value c.deref_mut.ensures.len c.put_block.auto.table c.put_block.ensures.after in
    let held = seated s c.args.name i b _ c.requires.place c.requires.lawful size after in
    let slots = length-set s.slots i (slot_for c.args.name b.count) ∙ s.slot_count in
    record {
      statement_room = s.statement_room;
      word_room = s.word_room;
      slot_count = slots;
      data_slot_count = s.data_slot_count;
      few = s.few;
      single = held.single;
      emptied = held.emptied;
      small = held.small;
      readable = held.readable;
      sized = s.sized;
    }

pub returns : goal.returns
returns c =
    let s = c.args.self.now in
    let i = c.args.slot in
    let b = c.args.block.now in
    let place = place_is s.slots c.args.name i c.requires.place in
    let size = sym (ap length c.deref_mut.ensures.value) ∙ c.deref_mut.ensures.len in
    let after = refilled_paste s.statements c.deref_mut.result.now c.put_block.new.table (i * 255) (statement_lines b.lines) b.count c.deref_mut.ensures.value c.deref_mut.ensures.len c.put_block.auto.table c.put_block.ensures.after in
    let held = seated s c.args.name i b _ c.requires.place c.requires.lawful size after in
    record {
      after = seated-blocks s _ i c.args.name _ place held.named held.text held.others;
      count = seated_count s _ i c.args.name (slot_for c.args.name b.count) place (place_low s c.args.name i c.requires.place) refl refl;
      same = same_data s _ refl refl refl refl held.spare;
    }
