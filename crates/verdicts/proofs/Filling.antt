-- A store filled section by section. Assumes nothing.
use Rattle.std.proofs.Common.{◌≡◌, ℕ, ◌+◌, ◌<◌, ◌≤◌, cond, List, map, length, get_or, drop, is_ok, IsErrAnd, Ok, Err, Result, sym, ap, ◌∙◌}
use Rattle.std.proofs.lemmas.List.{at_drop_more, at_drop_all}
use Rattle.parser.specs.Answers.{and_then}
use Rattle.projects.specs.Sections.{Cut, seen_section}
use Rattle.projects.specs.declared.sections.Section.{Section}
use Rattle.verdicts.specs.Loading.{Held, put_answer, put_after, load_answer, load_after}
use Rattle.verdicts.specs.declared.loading.Rejected.{Rejected}

-- the sections from an index on
abbrev pub rest : List Section → ℕ → List Cut
rest xs i = map seen_section (drop i xs)

-- one section, and those behind it
answer_step : (h : Held) (xs : List Section) (i : ℕ) (d : Section) → i < length xs → load_answer h (rest xs i) ≡ and_then (put_answer h (seen_section (get_or xs i d))) (λ _. load_answer (put_after h (seen_section (get_or xs i d))) (rest xs (i + 1)))
unfolding load_answer
answer_step h xs i d g = at_drop_more (λ (ys : List Section). load_answer h (map seen_section ys)) xs i d g

after_step : (h : Held) (xs : List Section) (i : ℕ) (d : Section) → i < length xs → load_after h (rest xs i) ≡ cond (is_ok (put_answer h (seen_section (get_or xs i d)))) (load_after (put_after h (seen_section (get_or xs i d))) (rest xs (i + 1))) (put_after h (seen_section (get_or xs i d)))
unfolding load_after
after_step h xs i d g = at_drop_more (λ (ys : List Section). load_after h (map seen_section ys)) xs i d g

-- a section that is granted, and one that is refused
pub answer_more : (h k : Held) (xs : List Section) (i : ℕ) (d : Section) → i < length xs → Ok tt ≡ put_answer h (seen_section (get_or xs i d)) → k ≡ put_after h (seen_section (get_or xs i d)) → load_answer k (rest xs (i + 1)) ≡ load_answer h (rest xs i)
answer_more h k xs i d g e f =
    ap (λ (x : Held). load_answer x (rest xs (i + 1))) f
    ∙ sym (answer_step h xs i d g ∙ ap (λ (r : Result (Unit {0}) Rejected). and_then r (λ _. load_answer (put_after h (seen_section (get_or xs i d))) (rest xs (i + 1)))) (sym e))

pub after_more : (h k : Held) (xs : List Section) (i : ℕ) (d : Section) → i < length xs → Ok tt ≡ put_answer h (seen_section (get_or xs i d)) → k ≡ put_after h (seen_section (get_or xs i d)) → load_after k (rest xs (i + 1)) ≡ load_after h (rest xs i)
after_more h k xs i d g e f =
    let next = put_after h (seen_section (get_or xs i d)) in
    ap (λ (x : Held). load_after x (rest xs (i + 1))) f
    ∙ sym (after_step h xs i d g ∙ ap (λ (r : Result (Unit {0}) Rejected). cond (is_ok r) (load_after next (rest xs (i + 1))) next) (sym e))

pub answer_refused : (h : Held) (xs : List Section) (i : ℕ) (d : Section) (r : Rejected) → i < length xs → Err r ≡ put_answer h (seen_section (get_or xs i d)) → Err r ≡ load_answer h (rest xs i)
answer_refused h xs i d r g e =
    sym (answer_step h xs i d g ∙ ap (λ (x : Result (Unit {0}) Rejected). and_then x (λ _. load_answer (put_after h (seen_section (get_or xs i d))) (rest xs (i + 1)))) (sym e))

pub after_refused : (h k : Held) (xs : List Section) (i : ℕ) (d : Section) (r : Rejected) → i < length xs → Err r ≡ put_answer h (seen_section (get_or xs i d)) → k ≡ put_after h (seen_section (get_or xs i d)) → k ≡ load_after h (rest xs i)
after_refused h k xs i d r g e f =
    let next = put_after h (seen_section (get_or xs i d)) in
    f ∙ sym (after_step h xs i d g ∙ ap (λ (x : Result (Unit {0}) Rejected). cond (is_ok x) (load_after next (rest xs (i + 1))) next) (sym e))

-- behind the last section
pub answer_end : (h : Held) (xs : List Section) (i : ℕ) → length xs ≤ i → load_answer h (rest xs i) ≡ Ok tt
unfolding load_answer
answer_end h xs i g = at_drop_all (λ (ys : List Section). load_answer h (map seen_section ys)) xs i g

pub after_end : (h : Held) (xs : List Section) (i : ℕ) → length xs ≤ i → load_after h (rest xs i) ≡ h
unfolding load_after
after_end h xs i g = at_drop_all (λ (ys : List Section). load_after h (map seen_section ys)) xs i g

-- a refusal that a call hands on
pub handed_on : (r : Result (Unit {0}) Rejected) (x : Rejected) → IsErrAnd r (λ e. e ≡ x) → r ≡ Err x
handed_on (Ok y) x h = absurd h
handed_on (Err y) x h = ap Err h
