use Rattle.std.proofs.Common.{◌<◌, ◌≤◌, Bool, cond, ◌∷◌, length, IfSome, Option, sym, ap, ◌∙◌, subst, arith}
use Rattle.walk.specs.declared.places.Place.{Place}
use Rattle.walk.specs.Search.{waiting_on, spot, marking, joining}
use Rattle.walk.proofs.Waiting.{pushed}
use Rattle.walk.proofs.Hunting.{some_unmarked, was_unmarked}
use Rattle.walk.proofs.search.note.Goals as goal

pub returns-then-mark : goal.returns-then-mark
returns-then-mark c =
    let seen = c.args.marks.now.marked in
    let slots = c.args.waiting.now.slots.now in
    let depth = c.args.waiting.now.depth in
    let q = c.in-Some.place in
    let is = c.in-Some.is in
    let here : (1 ≤ q.statement) × (spot q < 1530) = subst (λ (o : Option Place). IfSome o (λ r. (1 ≤ r.statement) × (spot r < 1530))) is c.requires.inside in
    let size = c.args.marks.now.size in
    let inside : spot q < length seen = omega arith in
    let fresh = was_unmarked seen (spot q) _ c.mark.ensures.value c.if-mark.true in
    let some = some_unmarked seen (spot q) inside fresh in
    let room = c.requires.room in
    let p = pushed slots _ depth _ q _ 1530 c.push.ensures.value c.push.ensures.depth_after c.push.ensures.slots_after (omega arith) c.requires.slots in
    record {
      seen = c.mark.ensures.after ∙ sym (ap (marking seen) is);
      waiting = p.waiting ∙ sym (ap (joining seen (waiting_on slots depth)) is ∙ ap (λ (b : Bool). cond b (waiting_on slots depth) (q ∷ waiting_on slots depth)) fresh);
      size = p.size;
      rest = p.rest;
      same = c.push.ensures.same;
    }
