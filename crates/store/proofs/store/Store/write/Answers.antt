use Rattle.std.proofs.Common.{true, false, refl}
use Rattle.reader.specs.Listed.{listed}
use Rattle.reader.specs.Reading.{reading}
use Rattle.store.specs.Held.{blocks, block_count}
use Rattle.store.proofs.Granting.{place_granted, place_refused, answer_by_place, blocks_by_place, count_by_place}
use Rattle.store.proofs.Seating.{same_data}
use Rattle.store.proofs.store.Store.write.Goals as goal

pub returns-in_default : goal.returns-in_default
returns-in_default c =
    let s = c.args.self.now in
    let b = c.in_ok-block.block in
    let es = listed b.lines b.count in
    let text = reading c.args.text.now in
    let said = c.in_ok-block.ensures.value in
    let full = place_refused s c.args.name c.in_default.ensures.value in
    record {
      value = answer_by_place (blocks s) (block_count s) c.args.name es text false said full;
      after = blocks_by_place (blocks s) (block_count s) c.args.name es text false (blocks s) said full refl;
      count = count_by_place (blocks s) (block_count s) c.args.name es text false (block_count s) said full refl;
      same = same_data s s refl refl refl refl refl;
      refused = refl;
    }

pub returns : goal.returns
returns c =
    let s = c.args.self.now in
    let left = c.seat.new.self in
    let b = c.in_ok-block.block in
    let es = listed b.lines b.count in
    let text = reading c.args.text.now in
    let said = c.in_ok-block.ensures.value in
    let place = place_granted s c.args.name c.in-Some.slot c.in-Some.ensures.value in
    record {
      value = answer_by_place (blocks s) (block_count s) c.args.name es text true said place;
      after = blocks_by_place (blocks s) (block_count s) c.args.name es text true (blocks left) said place c.seat.ensures.after;
      count = count_by_place (blocks s) (block_count s) c.args.name es text true (block_count left) said place c.seat.ensures.count;
      same = c.seat.ensures.same;
      refused = tt;
    }
