use Rattle.std.proofs.Common.{ℕ, ◌+◌, map, vec_items, sym, ap, ◌∙◌, arith}
use Rattle.lines.specs.Lines.{lines_of}
use Rattle.projects.specs.Sections.{seen_section, sections_of}
use Rattle.projects.proofs.Cutting.{behind, sections_at, next_line, no_more, no_section, one_section, faulty_section, sections_end, file_cut, file_stray, handed_on}
use Rattle.projects.proofs.sections.sections.Goals as goal

pub returns-in_err-check_stray : goal.returns-in_err-check_stray
returns-in_err-check_stray c =
    let file = c.args.file.now in
    let fault = c.in_err-check_stray.field-0.0 in
    record { value = handed_on c.from_residual.result fault (sections_of file) c.from_residual.ensures.1 (file_stray file fault c.in_err-check_stray.ensures.value) }

pub returns-in_err-part : goal.returns-in_err-part
returns-in_err-part c =
    let file = c.args.file.now in
    let at = c.loop-index.at in
    let line = c.in-Some.line.now in
    let steps = c.in-Some.ensures.steps in
    let next = next_line file line at (lines_of c.loop-index.index-iterator.iter) (lines_of c.next.new.self.iter) c.loop-index.invariant.2 steps.0 in
    let fault = c.in_err-part.field-0.0 in
    let parts = vec_items c.loop-index.parts in
    let here = faulty_section parts c.as_slice.result.now fault (c.in-Some.index + 1) at file line c.tail.result.now next.cut (sym c.if-is_head.ensures.value) c.as_slice.ensures.value c.tail.ensures.value c.in_err-part.ensures.value in
    let number = ap (λ (k : ℕ). sections_at (map seen_section parts) (k + 1) file at) steps.1 in
    record { value = handed_on c.from_residual-in_err-part.result fault (sections_of file) c.from_residual-in_err-part.ensures.1 (here ∙ number ∙ c.loop-index.invariant.3 ∙ file_cut file c.in_ok-check_stray.ensures.value) }

pub loop-index-preserved-in-Continue-branch-3 : goal.loop-index-preserved-in-Continue-branch-3
loop-index-preserved-in-Continue-branch-3 c =
    let file = c.args.file.now in
    let at = c.loop-index.at in
    let line = c.in-Some.line.now in
    let steps = c.in-Some.ensures.steps in
    let next = next_line file line at (lines_of c.loop-index.index-iterator.iter) (lines_of c.next.new.self.iter) c.loop-index.invariant.2 steps.0 in
    let within = next.within in
    let parts = vec_items c.loop-index.parts in
    let after = vec_items c.push.new.self in
    let more = one_section parts c.as_slice.result.now after c.in_ok-part.part (c.in-Some.index + 1) at file line c.tail.result.now next.cut (sym c.if-is_head.ensures.value) c.as_slice.ensures.value c.tail.ensures.value c.in_ok-part.ensures.value c.in_ok-push.ensures.items in
    let first = ap (λ (k : ℕ). sections_at (map seen_section after) (k + 1) file (behind at line)) (steps.2 ∙ ap (λ (k : ℕ). k + 1) (sym steps.1)) in
    let number = ap (λ (k : ℕ). sections_at (map seen_section parts) (k + 1) file at) steps.1 in
    (omega (arith, steps.2), omega arith, next.rest, first ∙ more ∙ number ∙ c.loop-index.invariant.3)

pub loop-index-preserved : goal.loop-index-preserved
loop-index-preserved c =
    let file = c.args.file.now in
    let at = c.loop-index.at in
    let line = c.in-Some.line.now in
    let steps = c.in-Some.ensures.steps in
    let next = next_line file line at (lines_of c.loop-index.index-iterator.iter) (lines_of c.next.new.self.iter) c.loop-index.invariant.2 steps.0 in
    let within = next.within in
    let cs = map seen_section (vec_items c.loop-index.parts) in
    let more = no_section cs (c.in-Some.index + 1) at file line next.cut (sym c.if-is_head.ensures.value) in
    let first = ap (λ (k : ℕ). sections_at cs (k + 1) file (behind at line)) (steps.2 ∙ ap (λ (k : ℕ). k + 1) (sym steps.1)) in
    let number = ap (λ (k : ℕ). sections_at cs (k + 1) file at) steps.1 in
    (omega (arith, steps.2), omega arith, next.rest, first ∙ more ∙ number ∙ c.loop-index.invariant.3)

pub returns : goal.returns
returns c =
    let file = c.args.file.now in
    let cs = map seen_section (vec_items c.loop-index.parts) in
    let past = no_more file c.loop-index.at (lines_of c.loop-index.index-iterator.iter) c.loop-index.invariant.2 c.in-None.ensures.steps.0.0 in
    record { value = sections_end cs (c.loop-index.index-iterator.count + 1) c.loop-index.at file past ∙ c.loop-index.invariant.3 ∙ file_cut file c.in_ok-check_stray.ensures.value }
