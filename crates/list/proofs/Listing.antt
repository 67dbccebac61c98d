-- The statements of a block, one after another: their rows beside the lines of a text. Assumes nothing.
use Rattle.std.proofs.Common.{◌≡◌, ℕ, ◌+◌, ◌<◌, ◌≤◌, Bool, true, false, cond, eqb, List, [], ◌∷◌, ◌++◌, map, length, get_or, drop, is_some, Some, None, Option, sym, refl, ap, ◌∙◌, append_assoc, append-nil, arith}
use Rattle.std.specs.Option.{option_map}
use Rattle.std.proofs.lemmas.List.{at_drop_more, at_drop_all, length-map, get_or-map}
use Rattle.awl.specs.Written.{mark_text}
use Rattle.awl.specs.declared.marks.Mark.{Mark}
use Rattle.reader.specs.Listed.{entry}
use Rattle.reader.specs.Reading.{Entry}
use Rattle.reader.specs.declared.listings.Line.{Line}
use Rattle.list.specs.Counted.{is_marked}
use Rattle.list.specs.Rows.{statement_row, statement_rows, lost_row, lost_rows}

-- a statement is marked where its line has a mark
pub marked_entry : (l : Line) → is_marked (entry l) ≡ is_some l.mark
marked_entry l = seen l.mark
  where
    seen : (o : Option Mark) → is_some (option_map mark_text o) ≡ is_some o
    seen None = refl
    seen (Some m) = refl

-- one jump without its mark more
pub lost_more : (xs : List Line) (i : ℕ) (d : Line) (out row more : List ℕ) → i < length xs → row ≡ lost_row (i + 1) (entry (get_or xs i d)).statement → more ≡ out ++ row → more ++ lost_rows (i + 1 + 1) (drop (i + 1) (map entry xs)) ≡ out ++ lost_rows (i + 1) (drop i (map entry xs))
lost_more xs i d out row more h r m =
    let es = map entry xs in
    let x = entry (get_or xs i d) in
    let l : i < length (map entry xs) = omega (arith, length-map xs entry) in
    let rest = lost_rows (i + 1 + 1) (drop (i + 1) es) in
    let step =
    at_drop_more (λ (ys : List Entry). lost_rows (i + 1) ys) es i x l
    ∙ ap (λ (e : Entry). lost_row (i + 1) e.statement ++ rest) (get_or-map entry xs i d x h) in
    ap (λ (y : List ℕ). y ++ rest) (m ∙ ap (λ (y : List ℕ). out ++ y) r) ∙ append_assoc out (lost_row (i + 1) x.statement) rest ∙ ap (λ (y : List ℕ). out ++ y) (sym step)

-- the rows at a line, by whether the next statement was read from it
rows_step : (xs : List Line) (i n : ℕ) (d : Line) (line : List ℕ) (all rest : List (List ℕ)) (b : Bool) → i < length xs → all ≡ line ∷ rest → eqb (get_or xs i d).number n ≡ b →
    statement_rows (drop i (map entry xs)) n (i + 1) all
    ≡ cond b (statement_row (i + 1) (entry (get_or xs i d)) line ++ statement_rows (drop (i + 1) (map entry xs)) (n + 1) (i + 1 + 1) rest) (statement_rows (entry (get_or xs i d) ∷ drop (i + 1) (map entry xs)) (n + 1) (i + 1) rest)
rows_step xs i n d line all rest b h cut q =
    let es = map entry xs in
    let x = entry (get_or xs i d) in
    let l : i < length (map entry xs) = omega (arith, length-map xs entry) in
    ap (statement_rows (drop i es) n (i + 1)) cut
    ∙ at_drop_more (λ (ys : List Entry). statement_rows ys n (i + 1) (line ∷ rest)) es i x l
    ∙ ap (λ (y : Entry). statement_rows (y ∷ drop (i + 1) es) n (i + 1) (line ∷ rest)) (get_or-map entry xs i d x h)
    ∙ ap (λ (t : Bool). cond t (statement_row (i + 1) x line ++ statement_rows (drop (i + 1) es) (n + 1) (i + 1 + 1) rest) (statement_rows (x ∷ drop (i + 1) es) (n + 1) (i + 1) rest)) q

-- a line from which the next statement was read has a row
pub rows_hit : (xs : List Line) (i n : ℕ) (d : Line) (line out row more : List ℕ) (all rest : List (List ℕ)) → i < length xs → all ≡ line ∷ rest → eqb (get_or xs i d).number n ≡ true → row ≡ statement_row (i + 1) (entry (get_or xs i d)) line → more ≡ out ++ row →
    more ++ statement_rows (drop (i + 1) (map entry xs)) (n + 1) (i + 1 + 1) rest ≡ out ++ statement_rows (drop i (map entry xs)) n (i + 1) all
rows_hit xs i n d line out row more all rest h cut q r m =
    let after = statement_rows (drop (i + 1) (map entry xs)) (n + 1) (i + 1 + 1) rest in
    ap (λ (x : List ℕ). x ++ after) (m ∙ ap (λ (x : List ℕ). out ++ x) r) ∙ append_assoc out (statement_row (i + 1) (entry (get_or xs i d)) line) after ∙ ap (λ (x : List ℕ). out ++ x) (sym (rows_step xs i n d line all rest true h cut q))

-- any other line has none
pub rows_miss : (xs : List Line) (i n : ℕ) (d : Line) (line : List ℕ) (all rest : List (List ℕ)) → i < length xs → all ≡ line ∷ rest → eqb (get_or xs i d).number n ≡ false →
    statement_rows (drop i (map entry xs)) (n + 1) (i + 1) rest ≡ statement_rows (drop i (map entry xs)) n (i + 1) all
rows_miss xs i n d line all rest h cut q =
    let es = map entry xs in
    let x = entry (get_or xs i d) in
    let l : i < length (map entry xs) = omega (arith, length-map xs entry) in
    at_drop_more (λ (ys : List Entry). statement_rows ys (n + 1) (i + 1) rest) es i x l
    ∙ ap (λ (y : Entry). statement_rows (y ∷ drop (i + 1) es) (n + 1) (i + 1) rest) (get_or-map entry xs i d x h)
    ∙ sym (rows_step xs i n d line all rest false h cut q)

-- behind the last statement, and behind the last line, there is no row
no_statements : (n s : ℕ) (lines : List (List ℕ)) → statement_rows [] n s lines ≡ []
no_statements n s [] = refl
no_statements n s (line ∷ lines) = refl

pub rows_done : (xs : List Line) (i n : ℕ) (lines : List (List ℕ)) → length xs ≤ i → statement_rows (drop i (map entry xs)) n (i + 1) lines ≡ []
rows_done xs i n lines h =
    at_drop_all (λ (ys : List Entry). statement_rows ys n (i + 1) lines) (map entry xs) i (omega (arith, length-map xs entry)) ∙ no_statements n (i + 1) lines

-- the row of the last statement ends the rows
pub rows_last : (xs : List Line) (i n : ℕ) (d : Line) (line out row more : List ℕ) (all rest : List (List ℕ)) → i < length xs → all ≡ line ∷ rest → eqb (get_or xs i d).number n ≡ true → row ≡ statement_row (i + 1) (entry (get_or xs i d)) line → more ≡ out ++ row → length xs ≤ i + 1 →
    more ≡ out ++ statement_rows (drop i (map entry xs)) n (i + 1) all
rows_last xs i n d line out row more all rest h cut q r m end =
    sym (append-nil more) ∙ ap (λ (x : List ℕ). more ++ x) (sym (rows_done xs (i + 1) (n + 1) rest end)) ∙ rows_hit xs i n d line out row more all rest h cut q r m
