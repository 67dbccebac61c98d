-- A block that was read, as the table and as its readers see it. Assumes nothing.
use Rattle.std.proofs.Common.{◌≡◌, ℕ, ◌+◌, ◌<◌, ◌≤◌, true, List, [], ◌∷◌, ◌++◌, map, length, get_or, take, drop, Some, vec_items, vec_len, Option, Vec, sym, refl, ap, ◌∙◌, subst, arith, MatchOption}
use lib.Seq.{paste}
use Rattle.std.specs.Vec.{with_items}
use Rattle.std.specs.declared.alloc.Global.{Global}
use Rattle.std.proofs.lemmas.List.{length-take-le, take-take, take-map, length-map, get_or-map, with_items_is}
use Rattle.awl.specs.declared.statements.Statement.{Statement}
use Rattle.parser.specs.Statements.{Written, written}
use Rattle.reader.specs.Laws.{Lawful, Carries, NoneCarries}
use Rattle.reader.specs.Listed.{entry, listed}
use Rattle.reader.specs.Reading.{Entry}
use Rattle.reader.specs.declared.listings.Line.{Line}
use Rattle.store.specs.Calls.{statements_of}
use Rattle.store.specs.Runs.{statement_lines}
use Rattle.store.specs.Slots.{is_readable}
use Rattle.store.proofs.Reading.{readable_to}

run_spelled : (ls : List Line) → map written (statement_lines ls) ≡ statements_of (map entry ls)
run_spelled [] = refl
run_spelled (l ∷ ls) = ap (λ (ws : List Written). written l.statement ∷ ws) (run_spelled ls)

-- the run of statements that is written into the table is what was read
pub lines_spelled : (lines : List Line) (count : ℕ) → map written (take count (statement_lines lines)) ≡ statements_of (listed lines count)
lines_spelled lines count =
    let cut : take count (statement_lines lines) ≡ statement_lines (take count lines) = take-map (λ (l : Line). l.statement) count lines in
    ap (map written) cut ∙ run_spelled (take count lines)

-- the first lines of a block, written as they are or out of all of its lines
pub lines_pasted : (d : List Statement) (at : ℕ) (lines : List Line) (count : ℕ) → count ≤ length lines → paste d at (statement_lines (take count lines)) (length (take count lines)) ≡ paste d at (statement_lines lines) count
lines_pasted d at lines count h =
    let said : Line → Statement = λ l. l.statement in
    let cut = ap (take count) (sym (take-map said count lines)) ∙ take-take count count (statement_lines lines) (omega arith) in
    ap (λ (n : ℕ). paste d at (statement_lines (take count lines)) n) (length-take-le count lines h)
    ∙ ap (λ (run : List Statement). take at d ++ run ++ drop (at + count) d) cut

-- a jump that finds its mark goes to one of the statements
aimed : (es : List Entry) → Lawful es → (s t : ℕ) (d : Written) → s < length (statements_of es) → (get_or (statements_of es) s d).target ≡ Some t → (1 ≤ t) × (t ≤ length (statements_of es))
aimed [] law s t d l e = absurd (omega arith)
aimed (x ∷ xs) law s t d l e =
    let f : Entry → Written = λ y. y.statement in
    let size = length-map (x ∷ xs) f in
    let within : s < length (x ∷ xs) = omega arith in
    let here = sym (ap (λ (w : Written). w.target) (get_or-map f (x ∷ xs) s x d within)) ∙ e in
    let named = law.plain s t x within here in
    let P : Option ℕ → Type 0 = λ o. MatchOption o (NoneCarries (x ∷ xs) named.0) (Carries (x ∷ xs) named.0) in
    let carried : P (Some t) = subst P here (law.aimed s x named.0 within named.1) in
    (carried.0, omega (arith, carried.1))

-- a block that was read can be read
pub lawful_readable : (es : List Entry) → Lawful es → is_readable (statements_of es) ≡ true
lawful_readable es law =
    let f : Entry → Written = λ y. y.statement in
    let size = length-map es f in
    readable_to (statements_of es) (record { some = omega (arith, law.some); few = omega (arith, law.few); aimed = aimed es law })

-- a table after a run was written into it
pub refilled_paste : {X : Type 0} (v : Vec X Global) (r ws : List X) (at : ℕ) (run : List X) (n : ℕ) → r ≡ vec_items v → length r ≡ vec_len v → length ws ≡ length r → ws ≡ paste r at run n → vec_items (with_items v ws) ≡ paste (vec_items v) at run n
refilled_paste {X = X} v r ws at run n e l k p = with_items_is v ws (k ∙ l) ∙ (p ∙ ap (λ (xs : List X). paste xs at run n) e)
