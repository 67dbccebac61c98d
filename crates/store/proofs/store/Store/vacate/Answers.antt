use Rattle.std.proofs.Common.{vec_items, refl, ◌∙◌, arith, length-set}
use Rattle.store.specs.Slots.{free}
use Rattle.store.proofs.Changing.{name_put, name_kept, single_set, emptied_set, small_set, readable_set, text_same}
use Rattle.store.proofs.Finding.{slot_named}
use Rattle.store.proofs.Holding.{slot_has_name}
use Rattle.store.proofs.Naming.{none_named}
use Rattle.store.proofs.Seating.{erased_blocks, erased_count, same_data}
use Rattle.store.proofs.store.Store.vacate.Goals as goal

pub bounds-self-slot : goal.bounds-self-slot
bounds-self-slot c = (slot_has_name c.args.self.now c.args.name c.args.slot c.requires).0

pub invariant_of-self : goal.invariant_of-self
invariant_of-self c =
    let s = c.args.self.now in
    let i = c.args.slot in
    let table = vec_items s.statements in
    let within = (slot_named s.slots c.args.name i c.requires).0 in
    let slots = length-set s.slots i free ∙ s.slot_count in
    let single = single_set s.slots i free within s.single (λ j n e. absurd (none_named n e)) in
    let emptied = emptied_set s.slots i free within s.emptied (λ e. refl) in
    let small = small_set s.slots i free within s.small (omega arith) in
    let readable = readable_set s.slots i free table table within s.readable (λ j ne. text_same s.slots i j free table ne) (λ n e. absurd (none_named n e)) in
    record {
      statement_room = s.statement_room;
      word_room = s.word_room;
      slot_count = slots;
      data_slot_count = s.data_slot_count;
      few = s.few;
      single = single;
      emptied = emptied;
      small = small;
      readable = readable;
      sized = s.sized;
    }

pub returns : goal.returns
returns c =
    let s = c.args.self.now in
    let i = c.args.slot in
    let table = vec_items s.statements in
    let within = (slot_named s.slots c.args.name i c.requires).0 in
    record {
      after = erased_blocks s _ i c.args.name c.requires (name_put s.slots i free within) (λ j ne. (name_kept s.slots i j free ne, text_same s.slots i j free table ne));
      count = erased_count s _ i c.args.name c.requires refl;
      same = same_data s _ refl refl refl refl refl;
    }
