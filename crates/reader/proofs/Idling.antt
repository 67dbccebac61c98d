-- A blank or comment line put in anywhere only moves the lines behind it. Assumes nothing.
use Rattle.std.proofs.Common.{◌≡◌, ℕ, suc, ◌+◌, ◌<◌, ◌≤◌, Bool, true, false, cond, ◌&&◌, eqb, ltb, leb, List, [], ◌∷◌, ◌++◌, map, length, None, Ok, Err, Option, Result, sym, refl, ap, ◌∙◌, subst, inl, inr, arith, le-ltb, lt-ltb}
use Rattle.std.specs.Option.{option_to_list}
use Rattle.std.specs.List.{prefix_len}
use Rattle.std.proofs.lemmas.List.{append-nil, append_assoc, map-append}
use Rattle.std.proofs.lemmas.Bool.Decides.{nat_tests}
use Rattle.awl.specs.Alphabet.{in_class}
use Rattle.awl.specs.declared.bytes.ByteClass.TheVariants.{Printable}
use Rattle.parser.specs.Answers.{map_ok, map_err, and_then}
use Rattle.reader.specs.Laws.{entry_at, moved_down, WholeLines, Idle, IdleLinesOnlyMove}
use Rattle.reader.specs.Lines.{lines_of, prepend}
use Rattle.reader.specs.Reading.{Entry, line_read, lines_read, some_read, resolved, reading}
use Rattle.reader.specs.declared.faults.LineFault.TheVariants.{Byte}
use Rattle.reader.specs.declared.faults.BlockFault.{BlockFault}
use Rattle.reader.specs.declared.faults.BlockFault.TheVariants.{Line}
use Rattle.reader.proofs.Moving.{moved_list, read_moves, whole_moves}
use Rattle.reader.proofs.Stepping.{line_blank}

-- The lines of texts that are joined.

-- a text that ends in byte 10 has a line
some_line : (t : List ℕ) → (l : List ℕ) × (ls : List (List ℕ)) × (lines_of (t ++ 10 ∷ []) ≡ l ∷ ls)
some_line [] = ([], [], refl)
some_line (b ∷ t) = at (eqb b 10) (some_line t)
  where
    at : (e : Bool) → (l : List ℕ) × (ls : List (List ℕ)) × (lines_of (t ++ 10 ∷ []) ≡ l ∷ ls) → (l : List ℕ) × (ls : List (List ℕ)) × (cond e ([] ∷ lines_of (t ++ 10 ∷ [])) (prepend b (lines_of (t ++ 10 ∷ []))) ≡ l ∷ ls)
    at true s = ([], lines_of (t ++ 10 ∷ []), refl)
    at false s = (b ∷ s.0, s.1, ap (prepend b) s.2)

-- a byte in front of joined lines stands in front of the first
prepend_joined : (b : ℕ) (xs ys : List (List ℕ)) (l : List ℕ) (ls : List (List ℕ)) → xs ≡ l ∷ ls → prepend b (xs ++ ys) ≡ prepend b xs ++ ys
prepend_joined b [] ys l ls e = let z : ◌≡◌ {A = ℕ} 0 1 = cc in absurd (omega arith)
prepend_joined b (x ∷ xs) ys l ls e = refl

lines_join : (t u : List ℕ) → lines_of (t ++ 10 ∷ u) ≡ lines_of (t ++ 10 ∷ []) ++ lines_of u
lines_join [] u = refl
lines_join (b ∷ t) u = at (eqb b 10) (lines_join t u)
  where
    at : (e : Bool) → lines_of (t ++ 10 ∷ u) ≡ lines_of (t ++ 10 ∷ []) ++ lines_of u → cond e ([] ∷ lines_of (t ++ 10 ∷ u)) (prepend b (lines_of (t ++ 10 ∷ u))) ≡ cond e ([] ∷ lines_of (t ++ 10 ∷ [])) (prepend b (lines_of (t ++ 10 ∷ []))) ++ lines_of u
    at true s = ap (λ (ls : List (List ℕ)). [] ∷ ls) s
    at false s =
        let some = some_line t in
        ap (prepend b) s ∙ prepend_joined b (lines_of (t ++ 10 ∷ [])) (lines_of u) some.0 some.1 some.2

-- whole lines stay lines, whatever follows
whole_join : (before u : List ℕ) → WholeLines before → lines_of (before ++ u) ≡ lines_of before ++ lines_of u
whole_join before u (inl e) = subst (λ (t : List ℕ). lines_of (t ++ u) ≡ lines_of t ++ lines_of u) (sym e) refl
whole_join before u (inr w) =
    subst (λ (t : List ℕ). lines_of (t ++ u) ≡ lines_of t ++ lines_of u) (sym w.1) (ap lines_of (append_assoc w.0 (10 ∷ []) u) ∙ lines_join w.0 u)

-- printable bytes and a byte 10 are one line
line_joins : (line u : List ℕ) → prefix_len (in_class Printable) line ≡ length line → lines_of (line ++ 10 ∷ u) ≡ line ∷ lines_of u
line_joins [] u h = refl
line_joins (b ∷ line) u h = at (leb 32 b && leb b 126) refl h (line_joins line u)
  where
    no_end : (leb 32 b && leb b 126) ≡ true → eqb b 10 ≡ false
    no_end p = grind (arith, nat_tests)

    at : (p : Bool) → (leb 32 b && leb b 126) ≡ p → cond p (1 + prefix_len (in_class Printable) line) 0 ≡ suc (length line) → (prefix_len (in_class Printable) line ≡ length line → lines_of (line ++ 10 ∷ u) ≡ line ∷ lines_of u) → cond (eqb b 10) ([] ∷ lines_of (line ++ 10 ∷ u)) (prepend b (lines_of (line ++ 10 ∷ u))) ≡ (b ∷ line) ∷ lines_of u
    at true p g rest =
        ap (λ (e : Bool). cond e ([] ∷ lines_of (line ++ 10 ∷ u)) (prepend b (lines_of (line ++ 10 ∷ u)))) (no_end p) ∙ ap (prepend b) (rest (omega arith))
    at false p g rest = absurd (omega arith)

-- Lines with their numbers.

abbrev Numbered : Type 0
Numbered = List (ℕ × List ℕ)

abbrev numbered : ℕ → List (List ℕ) → Numbered
numbered n [] = []
numbered n (l ∷ ls) = (n, l) ∷ numbered (n + 1) ls

abbrev read_all : List Entry → Numbered → Result (List Entry) BlockFault
read_all es [] = Ok es
read_all es (x ∷ xs) = and_then (line_read es x.0 x.1) (λ more. read_all more xs)

and_then_same : {X Y E : Type 0} (r : Result X E) (K L : X → Result Y E) → ((x : X) → K x ≡ L x) → and_then r K ≡ and_then r L
and_then_same (Ok x) K L f = f x
and_then_same (Err e) K L f = refl

read_numbered : (es : List Entry) (n : ℕ) (ls : List (List ℕ)) → lines_read es n ls ≡ read_all es (numbered n ls)
read_numbered es n [] = refl
read_numbered es n (l ∷ ls) =
    and_then_same (line_read es n l) (λ more. lines_read more (n + 1) ls) (λ more. read_all more (numbered (n + 1) ls)) (λ more. read_numbered more (n + 1) ls)

numbered_join : (n : ℕ) (xs ys : List (List ℕ)) → numbered n (xs ++ ys) ≡ numbered n xs ++ numbered (n + length xs) ys
numbered_join n [] ys = let z : n ≡ n + 0 = omega arith in ap (λ (k : ℕ). numbered k ys) z
numbered_join n (x ∷ xs) ys =
    let k : n + 1 + length xs ≡ n + suc (length xs) = omega arith in
    ap (λ (ls : Numbered). (n, x) ∷ ls) (numbered_join (n + 1) xs ys ∙ ap (λ (m : ℕ). numbered (n + 1) xs ++ numbered m ys) k)

abbrev recounted : (ℕ → ℕ) → Numbered → Numbered
recounted f xs = map (λ (x : ℕ × List ℕ). (f x.0, x.1)) xs

-- lines counted another way are read as before
all_moves : (f : ℕ → ℕ) (es : List Entry) (xs : Numbered) → read_all (map (entry_at f) es) (recounted f xs) ≡ moved_list f (read_all es xs)
all_moves f es [] = refl
all_moves f es (x ∷ xs) =
    ap (λ (r : Result (List Entry) BlockFault). and_then r (λ more. read_all more (recounted f xs))) (read_moves f es x.0 x.1)
    ∙ at (line_read es x.0 x.1) (λ more. all_moves f more xs)
  where
    at : (r : Result (List Entry) BlockFault) → ((more : List Entry) → read_all (map (entry_at f) more) (recounted f xs) ≡ moved_list f (read_all more xs)) → and_then (moved_list f r) (λ more. read_all more (recounted f xs)) ≡ moved_list f (and_then r (λ more. read_all more xs))
    at (Ok more) rest = rest more
    at (Err b) rest = refl

-- an idle line adds nothing
idle_adds_none : (es : List Entry) (n : ℕ) (line : List ℕ) → Idle line → line_read es n line ≡ Ok es
idle_adds_none es n line i =
    ap (map_ok (λ (o : Option Entry). es ++ option_to_list o)) (line_blank es n line i.1 ∙ at (ltb (prefix_len (in_class Printable) line) (length line)) (le-ltb (prefix_len (in_class Printable) line) (length line) (let e = i.0 in omega arith)))
    ∙ ap Ok (append-nil es)
  where
    at : (b : Bool) → b ≡ false → map_err {X = Option Entry} Line (cond b (Err (Byte n (prefix_len (in_class Printable) line + 1))) (Ok None)) ≡ Ok None
    at true e = let z : ◌≡◌ {A = ℕ} 0 1 = ap (λ (b : Bool). cond b 0 1) e in absurd (omega arith)
    at false e = refl

idle_skipped : (es : List Entry) (n : ℕ) (line : List ℕ) (xs ys : Numbered) → Idle line → read_all es (xs ++ (n, line) ∷ ys) ≡ read_all es (xs ++ ys)
idle_skipped es n line [] ys i =
    ap (λ (r : Result (List Entry) BlockFault). and_then r (λ more. read_all more ys)) (idle_adds_none es n line i)
idle_skipped es n line (x ∷ xs) ys i =
    and_then_same (line_read es x.0 x.1) (λ more. read_all more (xs ++ (n, line) ∷ ys)) (λ more. read_all more (xs ++ ys)) (λ more. idle_skipped more n line xs ys i)

-- lines up to k keep their numbers, and lines behind move down by one
kept_below : (k n : ℕ) (xs : List (List ℕ)) → n + length xs ≤ k + 1 → recounted (moved_down k) (numbered n xs) ≡ numbered n xs
kept_below k n [] h = refl
kept_below k n (x ∷ xs) h =
    let here : moved_down k n ≡ n = ap (λ (b : Bool). cond b (n + 1) n) (le-ltb k n (omega arith)) in
    let rest = kept_below k (n + 1) xs (omega arith) in
    cc

moved_above : (k n : ℕ) (ys : List (List ℕ)) → k < n → recounted (moved_down k) (numbered n ys) ≡ numbered (n + 1) ys
moved_above k n [] h = refl
moved_above k n (y ∷ ys) h =
    let here : moved_down k n ≡ n + 1 = ap (λ (b : Bool). cond b (n + 1) n) (lt-ltb k n h) in
    let rest = moved_above k (n + 1) ys (omega arith) in
    cc

-- the lines of a text with one line put in behind the first ones
put_in : (xs ys : List (List ℕ)) (line : List ℕ) → Idle line → lines_read [] 1 (xs ++ line ∷ ys) ≡ moved_list (moved_down (length xs)) (lines_read [] 1 (xs ++ ys))
put_in xs ys line i =
    let k = length xs in
    let f = moved_down k in
    read_numbered [] 1 (xs ++ line ∷ ys)
    ∙ (ap (read_all []) (numbered_join 1 xs (line ∷ ys))
    ∙ (idle_skipped [] (1 + k) line (numbered 1 xs) (numbered (1 + k + 1) ys) i
    ∙ (ap (read_all []) (sym (map-append (λ (x : ℕ × List ℕ). (f x.0, x.1)) (numbered 1 xs) (numbered (1 + k) ys) ∙ parts))
    ∙ (all_moves f [] (numbered 1 xs ++ numbered (1 + k) ys)
    ∙ ap (moved_list f) (ap (read_all []) (sym (numbered_join 1 xs ys)) ∙ sym (read_numbered [] 1 (xs ++ ys)))))))
  where
    parts : recounted (moved_down (length xs)) (numbered 1 xs) ++ recounted (moved_down (length xs)) (numbered (1 + length xs) ys) ≡ numbered 1 xs ++ numbered (1 + length xs + 1) ys
    parts =
        let low = kept_below (length xs) 1 xs (omega arith) in
        let high = moved_above (length xs) (1 + length xs) ys (omega arith) in
        cc

pub idle_lines_only_move : IdleLinesOnlyMove
unfolding reading
idle_lines_only_move before line behind w i =
    let xs = lines_of before in
    let with_line : lines_of (before ++ (line ++ 10 ∷ behind)) ≡ lines_of before ++ line ∷ lines_of behind =
    whole_join before (line ++ 10 ∷ behind) w ∙ ap (λ (ls : List (List ℕ)). lines_of before ++ ls) (line_joins line behind i.0) in
    let without : lines_of (before ++ behind) ≡ lines_of before ++ lines_of behind = whole_join before behind w in
    let moved : lines_read [] 1 (lines_of (before ++ (line ++ 10 ∷ behind))) ≡ moved_list (moved_down (length (lines_of before))) (lines_read [] 1 (lines_of (before ++ behind))) =
    ap (lines_read [] 1) with_line ∙ (put_in (lines_of before) (lines_of behind) line i ∙ ap (λ (ls : List (List ℕ)). moved_list (moved_down (length (lines_of before))) (lines_read [] 1 ls)) (sym without)) in
    ap (λ (r : Result (List Entry) BlockFault). map_ok (λ (es : List Entry). map (resolved es) es) (and_then r some_read)) moved
    ∙ whole_moves (moved_down (length (lines_of before))) (lines_read [] 1 (lines_of (before ++ behind)))
