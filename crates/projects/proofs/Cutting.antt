-- The lines of a file up to the next head, and the sections that they make. Assumes nothing.
use Rattle.std.proofs.Common.{◌≡◌, ℕ, ◌+◌, ◌-◌, ◌<◌, ◌≤◌, min, Bool, true, false, cond, not, ◌==◌, leb, List, [], ◌∷◌, ◌++◌, map, length, take, drop, IsErrAnd, Some, Ok, Err, Result, Vec, sym, refl, ap, ◌∙◌, arith, leb-false, leb-true}
use Rattle.std.specs.declared.alloc.Global.{Global}
use Rattle.std.proofs.lemmas.List.{drop_all, drop-drop, map_push, take_all}
use Rattle.awl.specs.declared.names.BlockName.{BlockName}
use Rattle.parser.specs.Answers.{and_then}
use Rattle.lines.specs.Lines.{lines_of}
use Rattle.lines.proofs.Cutting.{size, line_cut}
use Rattle.std.specs.List.{find}
use Rattle.std.specs.Option.{option_map}
use Rattle.std.proofs.lemmas.List.{length-drop}
use Rattle.std.proofs.lemmas.List.Sums.{prefix_len-le-length}
use Rattle.std.proofs.lemmas.List.Folds.{length-prefix_len}
use Rattle.projects.specs.Heads.{is_head}
use Rattle.projects.specs.Sections.{Cut, seen_section, body_size, no_stray, names, section_named, section_of, sections_from, sections_of, Agrees}
use Rattle.projects.specs.declared.sections.FileFault.{FileFault}
use Rattle.projects.specs.declared.sections.Section.{Section}
use Rattle.projects.specs.declared.sections.Uncut.{Uncut}
use Rattle.projects.specs.declared.sections.Uncut.TheVariants.{Fault, Memory}

-- where the line behind a line begins
abbrev pub behind : ℕ → List ℕ → ℕ
behind i line = i + (length line + 1)

-- a line that comes next begins where those before it end, is a part of the text, and has the others behind it
pub record Next (text line : List ℕ) (i : ℕ) (more : List (List ℕ)) : Type 0 where
  pub starts : i < length text
  pub within : i + length line ≤ length text
  pub cut : lines_of (drop i text) ≡ line ∷ lines_of (drop (behind i line) text)
  pub rest : more ≡ lines_of (drop (behind i line) text)

first_of : (t line : List ℕ) (more : List (List ℕ)) → lines_of t ≡ line ∷ more → (0 < length t) × (line ≡ take (size t) t) × (more ≡ lines_of (drop (size t + 1) t))
first_of [] line more e = absurd (let z : ◌≡◌ {A = ℕ} 0 1 = cc in omega arith)
first_of (b ∷ t) line more e = let cut = line_cut (b ∷ t) (omega arith) in (omega arith, cc, cc)

pub next_line : (text line : List ℕ) (i : ℕ) (all more : List (List ℕ)) → all ≡ lines_of (drop i text) → all ≡ line ∷ more → Next text line i more
next_line text line i all more at e =
    let t = drop i text in
    let first = first_of t line more (sym at ∙ e) in
    let some = first.0 in
    let long : length line ≡ size t = ap length first.1 ∙ length-prefix_len (λ b. not (b == 10)) t in
    let few = prefix_len-le-length (λ b. not (b == 10)) t in
    let left = length-drop i text in
    let after : drop (size t + 1) t ≡ drop (behind i line) text = ap (λ (n : ℕ). drop (n + 1) t) (sym long) ∙ drop-drop (length line + 1) i text in
    let rest = first.2 ∙ ap lines_of after in
    record {
      starts = omega arith;
      within = omega arith;
      cut = sym at ∙ e ∙ ap (λ (ls : List (List ℕ)). line ∷ ls) rest;
      rest = rest;
    }

-- no line comes where the text has ended
none_of : (t : List ℕ) → lines_of t ≡ [] → length t ≡ 0
none_of [] e = refl
none_of (b ∷ t) e = let cut = line_cut (b ∷ t) (omega arith) in absurd (let z : ◌≡◌ {A = ℕ} 0 1 = cc in omega arith)

pub no_more : (text : List ℕ) (i : ℕ) (all : List (List ℕ)) → all ≡ lines_of (drop i text) → all ≡ [] → length text ≤ i
no_more text i all at e = let none = none_of (drop i text) (sym at ∙ e) in omega (arith, length-drop i text)

-- what the lines before the next head take, where the first of them is a head, and where it is not
pub body_line : (line : List ℕ) (all rest : List (List ℕ)) (b : Bool) → all ≡ line ∷ rest → is_head line ≡ b → body_size all ≡ cond b 0 (length line + 1 + body_size rest)
body_line line all rest b e f = ap body_size e ∙ ap (λ (x : Bool). cond x 0 (length line + 1 + body_size rest)) f

pub body_none : (all : List (List ℕ)) → all ≡ [] → body_size all ≡ 0
body_none all e = ap body_size e

-- the section of a block, by the first that a search of the list finds
pub named_found : (name : BlockName) (xs : List Section) → option_map seen_section (find (λ (s : Section). names s.head name) xs) ≡ section_named name (map seen_section xs)
named_found name [] = refl
named_found name (x ∷ xs) = go (names x.head name) (named_found name xs)
  where
    go : (b : Bool) → option_map seen_section (find (λ (s : Section). names s.head name) xs) ≡ section_named name (map seen_section xs) → option_map seen_section (cond b (Some x) (find (λ (s : Section). names s.head name) xs)) ≡ cond b (Some (seen_section x)) (section_named name (map seen_section xs))
    go true e = refl
    go false e = e

-- a cut at a body's end is the body; `n - 0` is how the checker writes the end of a part `[0..n]`
pub take_min : (text : List ℕ) (n : ℕ) → n ≡ min (body_size (lines_of text)) (length text) → take (n - 0) text ≡ take (body_size (lines_of text)) text
take_min text n e = at (body_size (lines_of text)) (leb (body_size (lines_of text)) (length text)) refl e
  where
    at : (k : ℕ) (b : Bool) → leb k (length text) ≡ b → n ≡ min k (length text) → take (n - 0) text ≡ take k text
    at k true h e =
        let within : k ≤ length text = leb-true k (length text) h in
        let same : n - 0 ≡ k = omega arith in
        ap (λ (m : ℕ). take m text) same
    at k false h e =
        let past : length text < k = leb-false k (length text) h in
        let all : length text ≤ n - 0 = omega arith in
        take_all (n - 0) text all ∙ sym (take_all k text (omega arith))

-- the sections from an index of the file on
abbrev pub sections_at : List Cut → ℕ → List ℕ → ℕ → Result (List Cut) FileFault
sections_at cs n file i = sections_from cs n (lines_of (drop i file)) (drop i file)

-- a line adds its section where it is a head, and nothing else where it is not
sections_step : (cs : List Cut) (n i : ℕ) (file line : List ℕ) (b : Bool) → lines_of (drop i file) ≡ line ∷ lines_of (drop (behind i line) file) → is_head line ≡ b → sections_at cs n file i ≡ cond b (and_then (section_of cs n line (drop (behind i line) file)) (λ c. sections_at (cs ++ c ∷ []) (n + 1) file (behind i line))) (sections_at cs (n + 1) file (behind i line))
unfolding sections_from
sections_step cs n i file line b cut f =
    let rest = lines_of (drop (behind i line) file) in
    ap (λ (ls : List (List ℕ)). sections_from cs n ls (drop i file)) cut
    ∙ ap (λ (t : List ℕ). cond (is_head line) (and_then (section_of cs n line t) (λ c. sections_from (cs ++ c ∷ []) (n + 1) rest t)) (sections_from cs (n + 1) rest t)) (drop-drop (length line + 1) i file)
    ∙ ap (λ (x : Bool). cond x (and_then (section_of cs n line (drop (behind i line) file)) (λ c. sections_at (cs ++ c ∷ []) (n + 1) file (behind i line))) (sections_at cs (n + 1) file (behind i line))) f

pub no_section : (cs : List Cut) (n i : ℕ) (file line : List ℕ) → lines_of (drop i file) ≡ line ∷ lines_of (drop (behind i line) file) → is_head line ≡ false → sections_at cs (n + 1) file (behind i line) ≡ sections_at cs n file i
no_section cs n i file line cut f = sym (sections_step cs n i file line false cut f)

pub one_section : (parts above after : List Section) (part : Section) (n i : ℕ) (file line below : List ℕ) → lines_of (drop i file) ≡ line ∷ lines_of (drop (behind i line) file) → is_head line ≡ true → above ≡ parts → below ≡ drop (behind i line) file → Ok (seen_section part) ≡ section_of (map seen_section above) n line below → after ≡ parts ++ part ∷ [] → sections_at (map seen_section after) (n + 1) file (behind i line) ≡ sections_at (map seen_section parts) n file i
one_section parts above after part n i file line below cut f a b s p =
    let cs = map seen_section parts in
    let made : section_of cs n line (drop (behind i line) file) ≡ Ok (seen_section part) = cc in
    ap (λ (xs : List Section). sections_at (map seen_section xs) (n + 1) file (behind i line)) p
    ∙ ap (λ (xs : List Cut). sections_at xs (n + 1) file (behind i line)) (map_push seen_section parts part)
    ∙ sym (sections_step cs n i file line true cut f ∙ ap (λ (r : Result Cut FileFault). and_then r (λ c. sections_at (cs ++ c ∷ []) (n + 1) file (behind i line))) made)

pub faulty_section : (parts above : List Section) (fault : FileFault) (n i : ℕ) (file line below : List ℕ) → lines_of (drop i file) ≡ line ∷ lines_of (drop (behind i line) file) → is_head line ≡ true → above ≡ parts → below ≡ drop (behind i line) file → Err fault ≡ section_of (map seen_section above) n line below → Err fault ≡ sections_at (map seen_section parts) n file i
faulty_section parts above fault n i file line below cut f a b s =
    let cs = map seen_section parts in
    let made : section_of cs n line (drop (behind i line) file) ≡ Err fault = cc in
    sym (sections_step cs n i file line true cut f ∙ ap (λ (r : Result Cut FileFault). and_then r (λ c. sections_at (cs ++ c ∷ []) (n + 1) file (behind i line))) made)

pub sections_end : (cs : List Cut) (n i : ℕ) (file : List ℕ) → length file ≤ i → Ok cs ≡ sections_at cs n file i
unfolding sections_from
sections_end cs n i file h = sym (ap (λ (t : List ℕ). sections_from cs n (lines_of t) t) (drop_all i file h))

-- a file is cut where nothing stands before its first head
pub file_cut : (file : List ℕ) → Ok tt ≡ no_stray 1 (lines_of file) → sections_from [] 1 (lines_of file) file ≡ sections_of file
unfolding sections_of
file_cut file e = ap (λ (r : Result (Unit {0}) FileFault). and_then r (λ _. sections_from [] 1 (lines_of file) file)) e

pub file_stray : (file : List ℕ) (fault : FileFault) → Err fault ≡ no_stray 1 (lines_of file) → Err fault ≡ sections_of file
unfolding sections_of
file_stray file fault e = ap (λ (r : Result (Unit {0}) FileFault). and_then r (λ _. sections_from [] 1 (lines_of file) file)) e

-- a fault that a call hands on is the file's
pub handed_on : (r : Result (Vec Section Global) Uncut) (f : FileFault) (d : Result (List Cut) FileFault) → IsErrAnd r (λ u. u ≡ Fault f) → Err f ≡ d → Agrees r d
handed_on (Ok parts) f d h e = absurd h
handed_on (Err (Fault g)) f d h e = cc
handed_on (Err Memory) f d h e = tt
