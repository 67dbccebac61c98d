-- Every block that is read keeps the laws of reading. Assumes nothing.
use Rattle.std.proofs.Common.{◌≡◌, ℕ, ◌+◌, ◌-◌, ◌<◌, ◌≤◌, Bool, true, false, cond, ltb, leb, List, [], ◌∷◌, ◌++◌, map, length, get_or, is_some, Some, None, Ok, Err, Option, Result, sym, refl, ap, ◌∙◌, subst, arith, leb-false, MatchOption}
use Rattle.std.specs.Option.{option_map, option_to_list}
use Rattle.std.specs.List.{prefix_len}
use Rattle.awl.specs.Alphabet.{in_class}
use Rattle.awl.specs.declared.bytes.ByteClass.TheVariants.{Printable}
use Rattle.std.proofs.lemmas.List.{length_push, length-map, get_or-map, append-nil}
use Rattle.awl.specs.Written.{Operand, none, bit, span, timer, counter, data_place, byte_constant, double_constant, mark, block, data_block}
use Rattle.lexer.specs.Words.{Piece, words_from}
use Rattle.parser.specs.Answers.{map_ok, map_err, and_then}
use Rattle.parser.specs.Statements.{statement_of}
use Rattle.reader.specs.Laws.{InRange, Carries, NoneCarries, Lawful}
use Rattle.reader.specs.Lines.{head_of, holds, sound, lines_of, code_of, line_end}
use Rattle.reader.specs.Reading.{Entry, carrier, fresh_mark, entry_of, line_entry, line_read, lines_read, some_read, leads_to, resolved, reading}
use Rattle.reader.specs.declared.faults.LineFault.TheVariants.{Byte, Word}
use Rattle.reader.specs.declared.faults.BlockFault.TheVariants.{Line, MarkTwice, Full, Empty}
use Rattle.reader.proofs.Marking.{Once, once_more, none_carries, carrier_law}

err_not_ok : {Y E : Type 0} (f : E) (y : Y) → ◌≡◌ {A = Result Y E} (Err f) (Ok y) → ⊥
err_not_ok f y e = let z : ◌≡◌ {A = ℕ} 0 1 = cc in omega arith

ok_same : {X E : Type 0} (x y : X) → ◌≡◌ {A = Result X E} (Ok x) (Ok y) → x ≡ y
ok_same x y e = cc

some_same : {X : Type 0} (x y : X) → ◌≡◌ {A = Option X} (Some x) (Some y) → x ≡ y
some_same x y e = cc

none_not_some : {X : Type 0} (x : X) → ◌≡◌ {A = Option X} None (Some x) → ⊥
none_not_some x e = let z : ◌≡◌ {A = ℕ} 0 1 = cc in omega arith

-- what follows from an answer that is granted
and_then_ok : {X Y E : Type 0} (r : Result X E) (k : X → Result Y E) (y : Y) → and_then r k ≡ Ok y → (x : X) × (r ≡ Ok x) × (k x ≡ Ok y)
and_then_ok (Ok x) k y e = (x, refl, e)
and_then_ok (Err f) k y e = absurd (err_not_ok f y e)

map_err_ok : {X E F : Type 0} (f : E → F) (r : Result X E) (x : X) → map_err f r ≡ Ok x → r ≡ Ok x
map_err_ok f (Ok y) x e = cc
map_err_ok f (Err g) x e = absurd (err_not_ok (f g) x e)

map_ok_ok : {X Y E : Type 0} (g : X → Y) (r : Result X E) (y : Y) → map_ok g r ≡ Ok y → (x : X) × (r ≡ Ok x) × (g x ≡ y)
map_ok_ok g (Ok x) y e = (x, refl, (let same : g x ≡ y = cc in same))
map_ok_ok g (Err f) y e = absurd (err_not_ok f y e)

-- a mark that is granted is new
fresh_new : (es : List Entry) (n : ℕ) (o : Option Piece) (u : Unit {0}) → fresh_mark es n o ≡ Ok u → (m : List ℕ) → option_map (λ (p : Piece). p.bytes) o ≡ Some m → NoneCarries es m
fresh_new es n None u e m f = absurd (none_not_some m f)
fresh_new es n (Some p) u e m f =
    let same : p.bytes ≡ m = cc in
    subst (NoneCarries es) same (at (is_some (carrier es p.bytes)) refl e)
  where
    at : (b : Bool) → is_some (carrier es p.bytes) ≡ b → cond b (Err (MarkTwice n p.column)) (Ok u) ≡ Ok u → NoneCarries es p.bytes
    at true t g = absurd (err_not_ok (MarkTwice n p.column) u g)
    at false t g = none_carries es p.bytes t

-- the mark of a statement that is read is new
entry_new : (es : List Entry) (n : ℕ) (line : List ℕ) (e : Entry) → entry_of es n line ≡ Ok e → (m : List ℕ) → e.mark ≡ Some m → NoneCarries es m
unfolding entry_of
entry_new es n line e r m f =
    let a = and_then_ok (map_err Line (sound {X = Unit {0}} n line tt)) _ e r in
    let b = and_then_ok (map_err Line (head_of n line)) _ e a.2 in
    let c = and_then_ok (fresh_mark es n b.0.mark) _ e b.2 in
    let d = and_then_ok (map_err Line (map_err Word (statement_of (line_end n line) (words_from (code_of line) b.0.behind)))) _ e c.2 in
    let own : e.mark ≡ option_map (λ (p : Piece). p.bytes) b.0.mark = ap (λ (x : Entry). x.mark) (sym (ok_same _ e d.2)) in
    fresh_new es n b.0.mark c.0 c.1 m (sym own ∙ f)

-- what a line adds is new, and there was room for it
abbrev New : List Entry → Entry → Type 0
New es e = (length es < 255) × ((m : List ℕ) → e.mark ≡ Some m → NoneCarries es m)

-- a line without a statement adds none
idle_none : (es : List Entry) (n : ℕ) (line : List ℕ) (e : Entry) → map_err Line (sound n line None) ≡ Ok (Some e) → New es e
idle_none es n line e g = absurd (at (ltb (prefix_len (in_class Printable) line) (length line)) (map_err_ok Line (sound n line None) (Some e) g))
  where
    at : (b : Bool) → cond b (Err (Byte n (prefix_len (in_class Printable) line + 1))) (Ok None) ≡ Ok (Some e) → ⊥
    at true h = err_not_ok (Byte n (prefix_len (in_class Printable) line + 1)) (Some e) h
    at false h = none_not_some e (ok_same None (Some e) h)

line_new : (es : List Entry) (n : ℕ) (line : List ℕ) (e : Entry) → line_entry es n line ≡ Ok (Some e) → New es e
unfolding line_entry
line_new es n line e r = at (holds line) (leb 255 (length es)) refl r
  where
    at : (h b : Bool) → leb 255 (length es) ≡ b → cond h (cond b (Err (Full n)) (map_ok Some (entry_of es n line))) (map_err Line (sound n line None)) ≡ Ok (Some e) → New es e
    at true true t g = absurd (err_not_ok (Full n) (Some e) g)
    at true false t g =
        let granted = map_ok_ok Some (entry_of es n line) (Some e) g in
        let same : granted.0 ≡ e = some_same granted.0 e granted.2 in
        (leb-false 255 (length es) t, entry_new es n line e (granted.1 ∙ ap Ok same))
    at false true t g = idle_none es n line e g
    at false false t g = idle_none es n line e g

-- what every list of statements keeps while it is read
abbrev Kept : List Entry → Type 0
Kept es = Once es × (length es ≤ 255)

line_keeps : (es more : List Entry) (n : ℕ) (line : List ℕ) → Kept es → line_read es n line ≡ Ok more → Kept more
line_keeps es more n line kept r =
    let o = map_ok_ok (λ (o : Option Entry). es ++ option_to_list o) (line_entry es n line) more r in
    subst Kept o.2 (at o.0 o.1)
  where
    at : (o : Option Entry) → line_entry es n line ≡ Ok o → Kept (es ++ option_to_list o)
    at None q = subst Kept (sym (append-nil es)) kept
    at (Some e) q =
        let new = line_new es n line e q in
        let room = new.0 in
        (once_more es e kept.0 new.1, omega (arith, length_push es e))

lines_keep : (es all : List Entry) (n : ℕ) (lines : List (List ℕ)) → Kept es → lines_read es n lines ≡ Ok all → Kept all
lines_keep es all n [] kept r = subst Kept (ok_same es all r) kept
lines_keep es all n (line ∷ lines) kept r =
    let first = and_then_ok (line_read es n line) (λ (more : List Entry). lines_read more (n + 1) lines) all r in
    lines_keep first.0 all (n + 1) lines (line_keeps es first.0 n line kept first.1) first.2

-- no statement is listed at first
kept_none : Kept []
kept_none = ((λ i j d m h l p q. absurd (omega arith)), omega arith)

-- only a mark leads somewhere
leads_marked : (es : List Entry) (x : Operand) (t : ℕ) → leads_to es x ≡ Some t → (m : List ℕ) × (x ≡ mark m)
leads_marked es none t e = absurd (none_not_some t e)
leads_marked es (bit a n y) t e = absurd (none_not_some t e)
leads_marked es (span a w n) t e = absurd (none_not_some t e)
leads_marked es (timer n) t e = absurd (none_not_some t e)
leads_marked es (counter n) t e = absurd (none_not_some t e)
leads_marked es (data_place p n) t e = absurd (none_not_some t e)
leads_marked es (byte_constant n) t e = absurd (none_not_some t e)
leads_marked es (double_constant z) t e = absurd (none_not_some t e)
leads_marked es (mark m) t e = (m, refl)
leads_marked es (block k n) t e = absurd (none_not_some t e)
leads_marked es (data_block n) t e = absurd (none_not_some t e)

-- every place that the statements name is in its range
abbrev pub Ranged : List Entry → Type 0
Ranged es = (i : ℕ) (d : Entry) → i < length es → InRange (get_or es i d).statement.operand

-- statements whose jumps were looked up are lawful
module _ (es : List Entry) (some : 1 ≤ length es) (kept : Kept es) (ranged : Ranged (map (resolved es) es)) where
  long : length (map (resolved es) es) ≡ length es
  long = length-map es (resolved es)

  at : (i : ℕ) (d : Entry) → i < length (map (resolved es) es) → get_or (map (resolved es) es) i d ≡ resolved es (get_or es i d)
  at i d h = get_or-map (resolved es) es i d d (omega (arith, long))

  mark_at : (i : ℕ) (d : Entry) → i < length (map (resolved es) es) → (get_or (map (resolved es) es) i d).mark ≡ (get_or es i d).mark
  mark_at i d h = ap (λ (x : Entry). x.mark) (at i d h)

  resolved_once : Once (map (resolved es) es)
  resolved_once i j d m h l p q =
      kept.0 i j d m h (omega (arith, long)) (sym (mark_at i d (omega arith)) ∙ p) (sym (mark_at j d l) ∙ q)

  none_resolved : (m : List ℕ) → NoneCarries es m → NoneCarries (map (resolved es) es) m
  none_resolved m f i d h q = f i d (omega (arith, long)) (sym (mark_at i d h) ∙ q)

  some_resolved : (m : List ℕ) (t : ℕ) → Carries es m t → Carries (map (resolved es) es) m t
  some_resolved m t f =
      let low = f.0 in
      let high = f.1 in
      (f.0, omega (arith, long), λ d. mark_at (t - 1) d (omega (arith, long)) ∙ f.2 d)

  aims : (m : List ℕ) (o : Option ℕ) → MatchOption o (NoneCarries es m) (Carries es m) → MatchOption o (NoneCarries (map (resolved es) es) m) (Carries (map (resolved es) es) m)
  aims m None f = none_resolved m f
  aims m (Some t) f = some_resolved m t f

  resolved_aimed : (i : ℕ) (d : Entry) (m : List ℕ) → i < length (map (resolved es) es) → (get_or (map (resolved es) es) i d).statement.operand ≡ mark m → MatchOption (get_or (map (resolved es) es) i d).statement.target (NoneCarries (map (resolved es) es) m) (Carries (map (resolved es) es) m)
  resolved_aimed i d m h e =
      let here = at i d h in
      let names : (get_or es i d).statement.operand ≡ mark m = sym (ap (λ (x : Entry). x.statement.operand) here) ∙ e in
      let goal : (get_or (map (resolved es) es) i d).statement.target ≡ carrier es m = ap (λ (x : Entry). x.statement.target) here ∙ ap (leads_to es) names in
      subst (λ (o : Option ℕ). MatchOption o (NoneCarries (map (resolved es) es) m) (Carries (map (resolved es) es) m)) (sym goal) (aims m (carrier es m) (carrier_law es m))

  resolved_plain : (i t : ℕ) (d : Entry) → i < length (map (resolved es) es) → (get_or (map (resolved es) es) i d).statement.target ≡ Some t → (m : List ℕ) × ((get_or (map (resolved es) es) i d).statement.operand ≡ mark m)
  resolved_plain i t d h e =
      let here = at i d h in
      let leads : leads_to es (get_or es i d).statement.operand ≡ Some t = sym (ap (λ (x : Entry). x.statement.target) here) ∙ e in
      let m = leads_marked es (get_or es i d).statement.operand t leads in
      (m.0, ap (λ (x : Entry). x.statement.operand) here ∙ m.1)

  resolved_lawful : Lawful (map (resolved es) es)
  resolved_lawful =
      record {
        some = omega (arith, long);
        few = (let f = kept.1 in omega (arith, long));
        once = resolved_once;
        aimed = resolved_aimed;
        plain = resolved_plain;
        ranged = ranged;
      }

-- the law of reading
pub reading_lawful : (text : List ℕ) (all : List Entry) → reading text ≡ Ok all → Ranged all → Lawful all
unfolding reading
reading_lawful text all r ranged =
    let looked = map_ok_ok (λ (es : List Entry). map (resolved es) es) (and_then (lines_read [] 1 (lines_of text)) some_read) all r in
    let listed = and_then_ok (lines_read [] 1 (lines_of text)) some_read looked.0 looked.1 in
    let kept = lines_keep [] listed.0 1 (lines_of text) kept_none listed.1 in
    let same = some-same-list listed.0 looked.0 listed.2 in
    subst Lawful looked.2 (resolved_lawful looked.0 same.0 (subst Kept same.1 kept) (subst Ranged (sym looked.2) ranged))
  where
    some-same-list : (es fs : List Entry) → some_read es ≡ Ok fs → (1 ≤ length fs) × (es ≡ fs)
    some-same-list [] fs e = absurd (err_not_ok Empty fs e)
    some-same-list (x ∷ es) fs e =
        let same = ok_same (x ∷ es) fs e in
        (omega (arith, ap length same), same)
