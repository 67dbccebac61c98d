use Rattle.std.proofs.Common.{◌≡◌, Bool, List, length, drop, Some, refl, ap, ◌∙◌, subst, arith, rules}
use Rattle.walk.specs.declared.places.Place.{Place}
use Rattle.walk.specs.Flows.{flows_of}
use Rattle.walk.specs.Places.{place_at}
use Rattle.walk.specs.Search.{waiting_on, unmarked, marking, joining, Hunt}
use Rattle.walk.proofs.Waiting.{waiting_none, popped}
use Rattle.walk.proofs.Hunting.{none_room, start_hunt, closed}
use Rattle.walk.proofs.search.marks_of.Goals as goal

pub note-requires : goal.note-requires
note-requires c =
    let long = ap length c.over-waiting.ensures.same.0 in
    let places = c.requires in
    let none = ap unmarked c.none-marks.ensures.value in
    let room = none_room in
    let empty = c.over-waiting.ensures.depth in
    record { inside = (omega arith, omega arith); room = omega arith; slots = omega arith }

pub loop-place-init : goal.loop-place-init
loop-place-init c =
    let long = ap length c.over-waiting.ensures.same.0 in
    let places = c.requires in
    let more = c.note.ensures.size in
    let first = Some (place_at 1 0) in
    let slots = c.over-waiting.result.slots.now in
    let empty : c.over-waiting.result.depth ≡ 0 = omega (arith, c.over-waiting.ensures.depth) in
    let z = ap (waiting_on slots) empty ∙ waiting_none slots in
    let none = c.none-marks.ensures.value in
    let h = start_hunt (flows_of c.args.block.statements.now) _ _ _ c.args.block.fit
    (c.note.ensures.seen ∙ ap (λ (xs : List Bool). marking xs first) none) z
    (c.note.ensures.waiting ∙ ap (λ (xs : List Bool). joining xs (waiting_on slots c.over-waiting.result.depth) first) none) in
    (refl, omega arith, refl, h.0, h.1)

pub visit-requires : goal.visit-requires
visit-requires c =
    let stack = c.loop-place.waiting in
    let top = c.in-Some.ensures.value in
    let same = c.pop.ensures.same.0 in
    let is = popped stack.slots.now _ stack.depth _ c.in-Some.place top.0 stack.within top.1 same c.pop.ensures.depth_after in
    let long = ap length same in
    let room = c.loop-place.invariant.1 in
    record {
      hunt = subst (λ (l : List Place). Hunt (flows_of c.args.block.statements.now) c.loop-place.marks.marked l) is c.loop-place.invariant.3;
      slots = omega arith;
    }

pub returns : goal.returns
returns c =
    let block = flows_of c.args.block.statements.now in
    let slots = c.loop-place.waiting.slots.now in
    let z = ap (waiting_on slots) c.in_default.ensures.value ∙ waiting_none slots in
    let a = ap (drop 1530) c.over-waiting.ensures.same.0 in
    let b = c.note.ensures.rest in
    let d = c.loop-place.invariant.2 in
    record {
      exact = closed block _ c.loop-place.invariant.4 c.args.block.fit (subst (λ (l : List Place). Hunt block c.loop-place.marks.marked l) z c.loop-place.invariant.3);
      rest = search rules;
    }
