use Rattle.std.proofs.Common.{◌≡◌, Some, sym, ◌∙◌, arith}
use Rattle.walk.specs.declared.places.Place.{Place}
use Rattle.walk.specs.Flows.{flows_of}
use Rattle.walk.proofs.Flowing.{length-flows}
use Rattle.walk.proofs.Waiting.{waiting_length}
use Rattle.walk.proofs.Ways.{walk_in}
use Rattle.walk.proofs.Hunting.{on_walk, on_next, jump_next, in_table, inside, half, visit_hunt, visit_first, visit_shorter}
use Rattle.walk.proofs.search.visit.Goals as goal

pub goes_to-to-requires : goal.goes_to-to-requires
goes_to-to-requires c =
    let w = on_walk _ _ _ c.args.place c.requires.hunt in
    let r = walk_in _ c.args.block.fit w in
    let few = c.args.block.fit.few in
    let long = length-flows c.args.block.statements.now in
    record { low = r.low; high = omega arith; brackets = r.few }

pub note-requires : goal.note-requires
note-requires c =
    let block = flows_of c.args.block.statements.now in
    let stack = c.args.waiting.now in
    let h = c.requires.hunt in
    let w = on_walk _ _ _ c.args.place h in
    let deep = waiting_length stack.slots.now stack.depth stack.within in
    let room = h.room in
    record {
      inside = inside block _ _ _ c.args.block.fit h (λ q e. on_next block c.args.place w q (sym c.goes_to-to.ensures.on ∙ e));
      room = omega arith;
      slots = c.requires.slots;
    }

pub note-requires-2 : goal.note-requires-2
note-requires-2 c =
    let block = flows_of c.args.block.statements.now in
    let stack = c.note.new.waiting in
    let w = on_walk _ _ _ c.args.place c.requires.hunt in
    let h = half block _ _ _ _ c.args.place _ c.args.block.fit (λ q e. on_next block c.args.place w q (sym c.goes_to-to.ensures.on ∙ e)) c.note.ensures.seen c.note.ensures.waiting c.requires.hunt in
    let deep = waiting_length stack.slots.now stack.depth stack.within in
    let room = h.room in
    record {
      inside = inside block _ _ _ c.args.block.fit h (λ q e. jump_next block c.args.place w q (sym c.goes_to-to.ensures.jump ∙ e));
      room = omega arith;
      slots = omega arith;
    }

pub returns : goal.returns
returns c =
    let block = flows_of c.args.block.statements.now in
    let p = c.args.place in
    let fit = c.args.block.fit in
    let stack = c.args.waiting.now in
    let stack₂ = c.note-2.new.waiting in
    let w = on_walk _ _ _ p c.requires.hunt in
    let on₁ = λ (q : Place) (e : c.goes_to-to.result.on ≡ Some q). on_next block p w q (sym c.goes_to-to.ensures.on ∙ e) in
    let on₂ = λ (q : Place) (e : c.goes_to-to.result.jump ≡ Some q). jump_next block p w q (sym c.goes_to-to.ensures.jump ∙ e) in
    let h₁ = half block _ _ _ _ p _ fit on₁ c.note.ensures.seen c.note.ensures.waiting c.requires.hunt in
    let in₁ = λ (q : Place) (e : c.goes_to-to.result.on ≡ Some q). in_table block _ _ q fit c.requires.hunt (on₁ q e) in
    let in₂ = λ (q : Place) (e : c.goes_to-to.result.jump ≡ Some q). in_table block _ _ q fit h₁ (on₂ q e) in
    let short = visit_shorter block _ _ _ _ _ _ _ _ in₁ in₂ c.note.ensures.seen c.note.ensures.waiting c.note-2.ensures.seen c.note-2.ensures.waiting in
    let deep = waiting_length stack.slots.now stack.depth stack.within in
    let deep₂ = waiting_length stack₂.slots.now stack₂.depth stack₂.within in
    record {
      hunt = visit_hunt block _ _ _ _ _ _ p _ _ fit c.goes_to-to.ensures.on c.goes_to-to.ensures.jump c.note.ensures.seen c.note.ensures.waiting c.note-2.ensures.seen c.note-2.ensures.waiting c.requires.hunt;
      first = visit_first block _ _ _ _ _ in₁ in₂ c.note.ensures.seen c.note-2.ensures.seen 0;
      shorter = omega arith;
      size = c.note-2.ensures.size ∙ c.note.ensures.size;
      rest = c.note-2.ensures.rest ∙ c.note.ensures.rest;
      same = c.note-2.ensures.same ∙ c.note.ensures.same;
    }
