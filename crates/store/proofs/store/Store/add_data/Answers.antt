use Rattle.std.proofs.Common.{ℕ, ◌+◌, ◌*◌, List, length, drop, set, replicate, vec_items, refl, ap, ◌∙◌, arith}
use mathlib.Core.Path.{fun_ext}
use Rattle.std.specs.Option.{option_map}
use Rattle.std.proofs.lemmas.List.{length-replicate}
use Rattle.store.specs.Held.{data_blocks}
use Rattle.store.specs.Slots.{data_slot_in, words_in}
use Rattle.store.specs.declared.slots.DataSlot.{DataSlot}
use Rattle.store.proofs.Numbering.{laid_more, unlaid, same_blocks}
use Rattle.store.proofs.Pasting.{paste_behind}
use Rattle.store.proofs.Spelling.{refilled_paste}
use Rattle.store.proofs.store.Store.add_data.Goals as goal

pub returns : goal.returns
unfolding data_blocks
returns c =
    let s = c.args.self.now in
    let ds = s.data_slots in
    let n = s.laid in
    let slot : DataSlot = record { number = c.args.number; size = c.args.size } in
    let count = s.data_slot_count in
    let room = c.requires.room in
    let few = c.requires.few in
    let wide = s.word_room in
    let size = ap length c.deref_mut.ensures.value in
    let long = c.deref_mut.ensures.len in
    let zeros = length-replicate {A = ℕ} c.args.size 0 in
    let after = refilled_paste s.words c.deref_mut.result.now c.put_zeros.new.table (n * 256) (replicate c.args.size 0) c.args.size c.deref_mut.ensures.value c.deref_mut.ensures.len c.put_zeros.auto.table c.put_zeros.ensures.after in
    let laid = laid_more ds n slot (vec_items s.words) (omega arith) s.sized (omega arith) (unlaid s c.args.number c.requires.fresh) in
    record {
      after = fun_ext (λ k. ap (λ (t : List ℕ). option_map (words_in (set ds n slot) t) (data_slot_in (set ds n slot) (n + 1) k)) after ∙ laid k);
      count = refl;
      same = same_blocks s _ refl refl refl (ap (drop 4096) after ∙ paste_behind (vec_items s.words) (n * 256) (replicate c.args.size 0) c.args.size 4096 (omega arith) (omega arith) (omega arith));
    }
