-- Lines counted another way: each step of reading says the same, at the new number. Assumes nothing.
use Rattle.std.proofs.Common.{◌≡◌, ℕ, ◌+◌, Bool, true, false, cond, ◌&&◌, ltb, leb, List, [], ◌∷◌, ◌++◌, map, length, take, is_some, Some, None, Ok, Err, Option, Result, sym, refl, ap, ◌∙◌}
use Rattle.std.specs.Option.{option_map, option_to_list}
use Rattle.std.specs.List.{prefix_len}
use Rattle.std.proofs.lemmas.List.{length-map, map-append}
use Rattle.awl.specs.Alphabet.{in_class}
use Rattle.awl.specs.MarkText.{is_mark}
use Rattle.awl.specs.Written.{Operand, none, bit, span, timer, counter, data_place, byte_constant, double_constant, mark, block, data_block}
use Rattle.awl.specs.declared.bytes.ByteClass.TheVariants.{Printable, BeforeColon}
use Rattle.awl.specs.declared.statements.Operation.{Operation}
use Rattle.lexer.specs.Letters.{letters_of}
use Rattle.lexer.specs.Names.{operation_named}
use Rattle.lexer.specs.Values.{value_of}
use Rattle.lexer.specs.Words.{Piece, Pieces, word_from, words_from, past, is_missing, fault_at}
use Rattle.lexer.specs.declared.faults.WordKind.{WordKind}
use Rattle.lexer.specs.declared.faults.WordKind.TheVariants as kind
use Rattle.lexer.specs.declared.faults.Flaw.TheVariants.{Extra}
use Rattle.lexer.specs.declared.faults.WordFault.{WordFault}
use Rattle.lexer.specs.declared.letters.Letters.{Letters}
use Rattle.lexer.specs.declared.words.LineEnd.{LineEnd}
use Rattle.parser.specs.Answers.{map_ok, map_err, and_then}
use Rattle.parser.specs.Statements.{Written, plain, expect, among, kind_behind, behind, operand_among, takes, stands_alone, complete, statement_with, statement_of}
use Rattle.reader.specs.Laws.{word_at, line_at, block_at, entry_at}
use Rattle.reader.specs.Lines.{Head, code_of, holds, line_end, sound, mark_before, head_of}
use Rattle.reader.specs.Reading.{Entry, carries_mark, carrier_from, carrier, fresh_mark, entry_of, line_entry, line_read, some_read, leads_to, resolved}
use Rattle.reader.specs.declared.faults.LineFault.{LineFault}
use Rattle.reader.specs.declared.faults.LineFault.TheVariants.{Byte, Colon, Word}
use Rattle.reader.specs.declared.faults.BlockFault.{BlockFault}
use Rattle.reader.specs.declared.faults.BlockFault.TheVariants.{Line, MarkTwice, Full}

-- one answer after another, where M moves what the second answers and g what the first refuses
and_then_moves : {X Y Z E F : Type 0} (g : E → F) (M : Result Y E → Result Z F) → ((e : E) → M (Err e) ≡ Err (g e)) → (r : Result X E) (s : Result X F) (K : X → Result Y E) (L : X → Result Z F) → s ≡ map_err g r → ((x : X) → L x ≡ M (K x)) → and_then s L ≡ M (and_then r K)
and_then_moves {Z = Z} {F = F} g M fails (Ok x) s K L e f = ap (λ (q : Result _ F). and_then {Y = Z} q L) e ∙ f x
and_then_moves {Z = Z} {F = F} g M fails (Err y) s K L e f = ap (λ (q : Result _ F). and_then {Y = Z} q L) e ∙ sym (fails y)

-- a smaller fault in a larger one
wraps : {X E F G H : Type 0} (w : E → F) (g : E → G) (v : G → H) (h : F → H) → ((e : E) → v (g e) ≡ h (w e)) → (r : Result X E) → map_err v (map_err g r) ≡ map_err h (map_err w r)
wraps w g v h same (Ok x) = refl
wraps w g v h same (Err e) = ap Err (same e)

abbrev end_at : (ℕ → ℕ) → LineEnd → LineEnd
end_at f e = record { line = f e.line; column = e.column }

expect_moves : {X : Type 0} (f : ℕ → ℕ) (o : Option X) (e : LineEnd) (k : WordKind) (p : Piece) → expect o (end_at f e) k p ≡ map_err (word_at f) (expect o e k p)
expect_moves f (Some x) e k p = refl
expect_moves f None e k p = refl

abbrev extra : LineEnd → Piece → WordFault
extra e p = record { kind = kind.Operand; flaw = Extra; line = e.line; column = p.column }

complete_moves : {X : Type 0} (f : ℕ → ℕ) (e : LineEnd) (p : Piece) (x : X) → complete (end_at f e) p x ≡ map_err (word_at f) (complete e p x)
complete_moves {X} f e p x = at (is_missing p)
  where
    at : (b : Bool) → cond {A = Result X WordFault} b (Ok x) (Err (word_at f (extra e p))) ≡ map_err (word_at f) (cond b (Ok x) (Err (extra e p)))
    at true = refl
    at false = refl

abbrev letters_at : (Letters → Bool) → Pieces → LineEnd → Result Letters WordFault
letters_at allowed ws e = expect (among allowed (letters_of ws.operand.bytes)) e kind.Operand ws.operand

operand_moves : (f : ℕ → ℕ) (allowed : Letters → Bool) (e : LineEnd) (ws : Pieces) → operand_among allowed (end_at f e) ws ≡ map_err (word_at f) (operand_among allowed e ws)
operand_moves f allowed e ws =
    and_then_moves (word_at f) (map_err (word_at f)) (λ y. refl) (letters_at allowed ws e) (letters_at allowed ws (end_at f e)) (behind e ws) (behind (end_at f e) ws) (expect_moves f (among allowed (letters_of ws.operand.bytes)) e kind.Operand ws.operand) (λ l. expect_moves f (value_of l ws.value.bytes) e (kind_behind l) ws.value)

abbrev alone : Operation → Pieces → LineEnd → Result Written WordFault
alone o ws e = complete e ws.operand (plain o none)

abbrev ended : Operation → Pieces → LineEnd → Operand → Result Written WordFault
ended o ws e x = complete e ws.extra (plain o x)

abbrev with_operand : Operation → Pieces → LineEnd → Result Written WordFault
with_operand o ws e = and_then (operand_among (takes o) e ws) (ended o ws e)

statement_with_moves : (f : ℕ → ℕ) (o : Operation) (e : LineEnd) (ws : Pieces) → statement_with o (end_at f e) ws ≡ map_err (word_at f) (statement_with o e ws)
statement_with_moves f o e ws = at (stands_alone o (is_missing ws.operand))
  where
    at : (b : Bool) → cond b (alone o ws (end_at f e)) (with_operand o ws (end_at f e)) ≡ map_err (word_at f) (cond b (alone o ws e) (with_operand o ws e))
    at true = complete_moves f e ws.operand (plain o none)
    at false =
        and_then_moves (word_at f) (map_err (word_at f)) (λ y. refl) (operand_among (takes o) e ws) (operand_among (takes o) (end_at f e) ws) (ended o ws e) (ended o ws (end_at f e)) (operand_moves f (takes o) e ws) (λ x. complete_moves f e ws.extra (plain o x))

abbrev operation_at : Pieces → LineEnd → Result Operation WordFault
operation_at ws e = expect (operation_named ws.operation.bytes) e kind.Operation ws.operation

statement_moves : (f : ℕ → ℕ) (e : LineEnd) (ws : Pieces) → statement_of (end_at f e) ws ≡ map_err (word_at f) (statement_of e ws)
unfolding statement_of
statement_moves f e ws =
    and_then_moves (word_at f) (map_err (word_at f)) (λ y. refl) (operation_at ws e) (operation_at ws (end_at f e)) (λ o. statement_with o e ws) (λ o. statement_with o (end_at f e) ws) (expect_moves f (operation_named ws.operation.bytes) e kind.Operation ws.operation) (λ o. statement_with_moves f o e ws)

mark_moves : (f : ℕ → ℕ) (e : LineEnd) (before : List ℕ) → mark_before (end_at f e) before ≡ map_err (word_at f) (mark_before e before)
unfolding mark_before
mark_moves f e before =
    at (is_missing (word_from before 1)) (is_missing (word_from before (past (word_from before 1))) && is_mark (word_from before 1).bytes)
  where
    at : (a b : Bool) → cond {A = Result (Option Piece) WordFault} a (Ok None) (cond b (Ok (Some (word_from before 1))) (Err (fault_at (end_at f e) kind.Mark (word_from before 1)))) ≡ map_err (word_at f) (cond a (Ok None) (cond b (Ok (Some (word_from before 1))) (Err (fault_at e kind.Mark (word_from before 1)))))
    at true b = refl
    at false true = refl
    at false false = refl

sound_moves : {X : Type 0} (f : ℕ → ℕ) (n : ℕ) (line : List ℕ) (x : X) → sound (f n) line x ≡ map_err (line_at f) (sound n line x)
sound_moves {X} f n line x = at (ltb (prefix_len (in_class Printable) line) (length line))
  where
    at : (b : Bool) → cond {A = Result X LineFault} b (Err (Byte (f n) (prefix_len (in_class Printable) line + 1))) (Ok x) ≡ map_err (line_at f) (cond b (Err (Byte n (prefix_len (in_class Printable) line + 1))) (Ok x))
    at true = refl
    at false = refl

abbrev colon_of : List ℕ → ℕ
colon_of line = prefix_len (in_class BeforeColon) (code_of line)

abbrev mark_at : List ℕ → LineEnd → Result (Option Piece) LineFault
mark_at line e = map_err Word (mark_before e (take (colon_of line) (code_of line)))

abbrev head_from : List ℕ → Option Piece → Result Head LineFault
head_from line m = Ok (record { mark = m; behind = colon_of line + 2 })

head_moves : (f : ℕ → ℕ) (n : ℕ) (line : List ℕ) → head_of (f n) line ≡ map_err (line_at f) (head_of n line)
unfolding head_of
head_moves f n line = at (ltb (colon_of line) (length (code_of line)))
  where
    marked : mark_at line (end_at f (line_end n line)) ≡ map_err (line_at f) (mark_at line (line_end n line))
    marked =
        ap (map_err Word) (mark_moves f (line_end n line) (take (colon_of line) (code_of line)))
        ∙ wraps Word (word_at f) Word (line_at f) (λ w. refl) (mark_before (line_end n line) (take (colon_of line) (code_of line)))

    at : (b : Bool) → cond b (and_then (mark_at line (end_at f (line_end n line))) (head_from line)) (Err (Colon (f n) (length line + 1))) ≡ map_err (line_at f) (cond b (and_then (mark_at line (line_end n line)) (head_from line)) (Err (Colon n (length line + 1))))
    at true =
        and_then_moves (line_at f) (map_err (line_at f)) (λ y. refl) (mark_at line (line_end n line)) (mark_at line (end_at f (line_end n line))) (head_from line) (head_from line) marked (λ m. refl)
    at false = refl

-- marks stay where they are
carrier_moves : (f : ℕ → ℕ) (n : ℕ) (es : List Entry) (m : List ℕ) → carrier_from n (map (entry_at f) es) m ≡ carrier_from n es m
carrier_moves f n [] m = refl
carrier_moves f n (e ∷ es) m = ap (cond (carries_mark e.mark m) (Some n)) (carrier_moves f (n + 1) es m)

fresh_moves : (f : ℕ → ℕ) (es : List Entry) (n : ℕ) (o : Option Piece) → fresh_mark (map (entry_at f) es) (f n) o ≡ map_err (block_at f) (fresh_mark es n o)
fresh_moves f es n None = refl
fresh_moves f es n (Some p) =
    ap (λ (q : Option ℕ). cond {A = Result (Unit {0}) BlockFault} (is_some q) (Err (MarkTwice (f n) p.column)) (Ok tt)) (carrier_moves f 1 es p.bytes)
    ∙ at (is_some (carrier es p.bytes))
  where
    at : (b : Bool) → cond {A = Result (Unit {0}) BlockFault} b (Err (MarkTwice (f n) p.column)) (Ok tt) ≡ map_err (block_at f) (cond b (Err (MarkTwice n p.column)) (Ok tt))
    at true = refl
    at false = refl

-- an answer with a statement
abbrev moved_entry : (ℕ → ℕ) → Result Entry BlockFault → Result Entry BlockFault
moved_entry f r = map_err (block_at f) (map_ok (entry_at f) r)

abbrev bytes_at : ℕ → List ℕ → Result (Unit {0}) BlockFault
bytes_at n line = map_err Line (sound n line tt)

abbrev head_at : ℕ → List ℕ → Result Head BlockFault
head_at n line = map_err Line (head_of n line)

abbrev words_at : ℕ → List ℕ → Head → Result Written BlockFault
words_at n line h = map_err Line (map_err Word (statement_of (line_end n line) (words_from (code_of line) h.behind)))

abbrev entry_from : ℕ → Head → Written → Result Entry BlockFault
entry_from n h s = Ok (record { line = n; mark = option_map (λ p. p.bytes) h.mark; statement = s })

-- what follows the mark, the head and the bytes of a line
abbrev after_mark : ℕ → List ℕ → Head → Result Entry BlockFault
after_mark n line h = and_then (words_at n line h) (entry_from n h)

abbrev after_head : List Entry → ℕ → List ℕ → Head → Result Entry BlockFault
after_head es n line h = and_then (fresh_mark es n h.mark) (λ _. after_mark n line h)

abbrev after_bytes : List Entry → ℕ → List ℕ → Result Entry BlockFault
after_bytes es n line = and_then (head_at n line) (after_head es n line)

words_move : (f : ℕ → ℕ) (n : ℕ) (line : List ℕ) (h : Head) → words_at (f n) line h ≡ map_err (block_at f) (words_at n line h)
words_move f n line h =
    let ws = words_from (code_of line) h.behind in
    ap (λ (r : Result Written WordFault). map_err Line (map_err Word r)) (statement_moves f (line_end n line) ws)
    ∙ (ap (map_err Line) (wraps Word (word_at f) Word (line_at f) (λ w. refl) (statement_of (line_end n line) ws))
    ∙ wraps Line (line_at f) Line (block_at f) (λ l. refl) (map_err Word (statement_of (line_end n line) ws)))

after_mark_moves : (f : ℕ → ℕ) (n : ℕ) (line : List ℕ) (h : Head) → after_mark (f n) line h ≡ moved_entry f (after_mark n line h)
after_mark_moves f n line h =
    and_then_moves (block_at f) (moved_entry f) (λ y. refl) (words_at n line h) (words_at (f n) line h) (entry_from n h) (entry_from (f n) h) (words_move f n line h) (λ s. refl)

after_head_moves : (f : ℕ → ℕ) (es : List Entry) (n : ℕ) (line : List ℕ) (h : Head) → after_head (map (entry_at f) es) (f n) line h ≡ moved_entry f (after_head es n line h)
after_head_moves f es n line h =
    and_then_moves (block_at f) (moved_entry f) (λ y. refl) (fresh_mark es n h.mark) (fresh_mark (map (entry_at f) es) (f n) h.mark) (λ _. after_mark n line h) (λ _. after_mark (f n) line h) (fresh_moves f es n h.mark) (λ _. after_mark_moves f n line h)

after_bytes_moves : (f : ℕ → ℕ) (es : List Entry) (n : ℕ) (line : List ℕ) → after_bytes (map (entry_at f) es) (f n) line ≡ moved_entry f (after_bytes es n line)
after_bytes_moves f es n line =
    and_then_moves (block_at f) (moved_entry f) (λ y. refl) (head_at n line) (head_at (f n) line) (after_head es n line) (after_head (map (entry_at f) es) (f n) line) moved (after_head_moves f es n line)
  where
    moved : head_at (f n) line ≡ map_err (block_at f) (head_at n line)
    moved = ap (map_err Line) (head_moves f n line) ∙ wraps Line (line_at f) Line (block_at f) (λ l. refl) (head_of n line)

entry_moves : (f : ℕ → ℕ) (es : List Entry) (n : ℕ) (line : List ℕ) → entry_of (map (entry_at f) es) (f n) line ≡ moved_entry f (entry_of es n line)
unfolding entry_of
entry_moves f es n line =
    and_then_moves (block_at f) (moved_entry f) (λ y. refl) (bytes_at n line) (bytes_at (f n) line) (λ _. after_bytes es n line) (λ _. after_bytes (map (entry_at f) es) (f n) line) moved (λ _. after_bytes_moves f es n line)
  where
    moved : bytes_at (f n) line ≡ map_err (block_at f) (bytes_at n line)
    moved = ap (map_err Line) (sound_moves f n line tt) ∙ wraps Line (line_at f) Line (block_at f) (λ l. refl) (sound n line tt)

-- an answer with a statement or none
abbrev moved_line : (ℕ → ℕ) → Result (Option Entry) BlockFault → Result (Option Entry) BlockFault
moved_line f r = map_err (block_at f) (map_ok (option_map (entry_at f)) r)

some_moves : (f : ℕ → ℕ) (r : Result Entry BlockFault) → map_ok Some (moved_entry f r) ≡ moved_line f (map_ok Some r)
some_moves f (Ok e) = refl
some_moves f (Err b) = refl

line_moves : (f : ℕ → ℕ) (es : List Entry) (n : ℕ) (line : List ℕ) → line_entry (map (entry_at f) es) (f n) line ≡ moved_line f (line_entry es n line)
unfolding line_entry
line_moves f es n line =
    ap (λ (k : ℕ). cond (holds line) (cond (leb 255 k) (Err (Full (f n))) (map_ok Some (entry_of (map (entry_at f) es) (f n) line))) (map_err Line (sound (f n) line None))) (length-map es (entry_at f))
    ∙ at (holds line) (leb 255 (length es))
  where
    idle : map_err Line (sound (f n) line None) ≡ moved_line f (map_err Line (sound n line None))
    idle = quiet (ltb (prefix_len (in_class Printable) line) (length line))
      where
        quiet : (b : Bool) → map_err Line (cond b (Err (Byte (f n) (prefix_len (in_class Printable) line + 1))) (Ok None)) ≡ moved_line f (map_err Line (cond b (Err (Byte n (prefix_len (in_class Printable) line + 1))) (Ok None)))
        quiet true = refl
        quiet false = refl

    at : (h b : Bool) → cond h (cond b (Err (Full (f n))) (map_ok Some (entry_of (map (entry_at f) es) (f n) line))) (map_err Line (sound (f n) line None)) ≡ moved_line f (cond h (cond b (Err (Full n)) (map_ok Some (entry_of es n line))) (map_err Line (sound n line None)))
    at true true = refl
    at true false = ap (map_ok Some) (entry_moves f es n line) ∙ some_moves f (entry_of es n line)
    at false b = idle

-- an answer with all statements so far
abbrev pub moved_list : (ℕ → ℕ) → Result (List Entry) BlockFault → Result (List Entry) BlockFault
moved_list f r = map_err (block_at f) (map_ok (map (entry_at f)) r)

list_moves : (f : ℕ → ℕ) (es : List Entry) (r : Result (Option Entry) BlockFault) → map_ok (λ (o : Option Entry). map (entry_at f) es ++ option_to_list o) (moved_line f r) ≡ moved_list f (map_ok (λ (o : Option Entry). es ++ option_to_list o) r)
list_moves f es (Ok None) = ap Ok (sym (map-append (entry_at f) es []))
list_moves f es (Ok (Some e)) = ap Ok (sym (map-append (entry_at f) es (e ∷ [])))
list_moves f es (Err b) = refl

pub read_moves : (f : ℕ → ℕ) (es : List Entry) (n : ℕ) (line : List ℕ) → line_read (map (entry_at f) es) (f n) line ≡ moved_list f (line_read es n line)
read_moves f es n line =
    ap (map_ok (λ (o : Option Entry). map (entry_at f) es ++ option_to_list o)) (line_moves f es n line) ∙ list_moves f es (line_entry es n line)

-- jumps lead where they led
leads_moves : (f : ℕ → ℕ) (es : List Entry) (x : Operand) → leads_to (map (entry_at f) es) x ≡ leads_to es x
leads_moves f es none = refl
leads_moves f es (bit a n y) = refl
leads_moves f es (span a w n) = refl
leads_moves f es (timer n) = refl
leads_moves f es (counter n) = refl
leads_moves f es (data_place p n) = refl
leads_moves f es (byte_constant n) = refl
leads_moves f es (double_constant z) = refl
leads_moves f es (mark m) = carrier_moves f 1 es m
leads_moves f es (block k n) = refl
leads_moves f es (data_block n) = refl

resolved_moves : (f : ℕ → ℕ) (es fs : List Entry) → map (resolved (map (entry_at f) es)) (map (entry_at f) fs) ≡ map (entry_at f) (map (resolved es) fs)
resolved_moves f es [] = refl
resolved_moves f es (e ∷ fs) =
    let here = leads_moves f es e.statement.operand in
    let rest = resolved_moves f es fs in
    cc

-- a whole reading moves as its lines do
pub whole_moves : (f : ℕ → ℕ) (r : Result (List Entry) BlockFault) → map_ok (λ (es : List Entry). map (resolved es) es) (and_then (moved_list f r) some_read) ≡ moved_list f (map_ok (λ (es : List Entry). map (resolved es) es) (and_then r some_read))
whole_moves f (Ok []) = refl
whole_moves f (Ok (e ∷ es)) = ap Ok (resolved_moves f (e ∷ es) (e ∷ es))
whole_moves f (Err b) = refl
