use Rattle.std.proofs.Common.{length, replicate, vec_items, refl, ap, arith}
use mathlib.Core.Path.{fun_ext}
use Rattle.std.specs.Option.{option_map}
use Rattle.store.specs.Slots.{free, statements_in}
use Rattle.store.specs.Held.{blocks, block_count, data_blocks}
use Rattle.store.proofs.Opening.{slot_free, names-free, single_free, emptied_free, small_free, readable_free}
use Rattle.store.proofs.store.Store.empty.Goals as goal

pub invariant_of-result : goal.invariant_of-result
invariant_of-result c =
    record {
      statement_room = c.requires.«statement_room»;
      word_room = c.requires.«word_room»;
      slot_count = refl;
      data_slot_count = refl;
      few = omega arith;
      single = single_free 32;
      emptied = emptied_free 32;
      small = small_free 32;
      readable = readable_free 32 (vec_items c.args.statements);
      sized = λ i h. absurd (omega arith);
    }

pub returns : goal.returns
unfolding blocks block_count data_blocks
returns c =
    record {
      value =
          record {
            numbered = refl;
            empty = fun_ext (λ n. ap (option_map (statements_in (replicate 32 free) (vec_items c.args.statements))) (slot_free 32 0 n));
            none = ap length (names-free 32);
            bare = refl;
            unlaid = refl;
            statements_spared = refl;
            words_spared = refl;
          };
      unlaid = refl;
    }
