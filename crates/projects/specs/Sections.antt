-- A project file cut at its head lines. It assumes nothing.
use Rattle.std.specs.Prelude.{◌≡◌, ℕ, ◌+◌, Bool, false, cond, ◌&&◌, List, [], ◌∷◌, ◌++◌, map, length, take, drop, Some, None, Ok, Err, vec_items, Option, Result, Vec, ◌==◌}
use Rattle.std.specs.declared.alloc.Global.{Global}
use Rattle.awl.specs.Order.{kind_rank}
use Rattle.awl.specs.declared.names.BlockName.{BlockName}
use Rattle.parser.specs.Answers.{and_then, map_err}
use Rattle.lines.specs.Lines.{lines_of}
use Rattle.reader.specs.Lines.{holds}
use Rattle.projects.specs.Heads.{is_head, head_of}
use Rattle.projects.specs.declared.heads.Head.{Head}
use Rattle.projects.specs.declared.heads.Head.TheVariants.{Block, Data}
use Rattle.projects.specs.declared.sections.FileFault.{FileFault}
use Rattle.projects.specs.declared.sections.FileFault.TheVariants as fault
use Rattle.projects.specs.declared.sections.Section.{Section}
use Rattle.projects.specs.declared.sections.Uncut.{Uncut}
use Rattle.projects.specs.declared.sections.Uncut.TheVariants.{Fault, Memory}

-- a head, the number of its line, and the bytes below it up to the next head
pub record Cut : Type 0 where
  pub head : Head
  pub line : ℕ
  pub text : List ℕ

-- a section of the code, by its bytes
abbrev pub seen_section : Section → Cut
seen_section s = record { head = s.head; line = s.line; text = s.text.now }

-- how many bytes the lines before the next head take, each with the byte 10 that ends it
abbrev pub body_size : List (List ℕ) → ℕ
body_size [] = 0
body_size (l ∷ ls) = cond (is_head l) 0 (length l + 1 + body_size ls)

-- no line before the next head holds anything, the first of the lines having number n
abbrev pub no_stray : ℕ → List (List ℕ) → Result (Unit {0}) FileFault
no_stray n [] = Ok tt
no_stray n (l ∷ ls) = cond (is_head l) (Ok tt) (cond (holds l) (Err (fault.Stray n)) (no_stray (n + 1) ls))

-- whether a head is that of a block
abbrev pub names : Head → BlockName → Bool
names (Block own) b = kind_rank own.kind == kind_rank b.kind && own.number == b.number
names (Data n l) b = false

-- the first section that has a block
abbrev pub section_named : BlockName → List Cut → Option Cut
section_named b [] = None
section_named b (c ∷ cs) = cond (names c.head b) (Some c) (section_named b cs)

-- a block stands in a file once
abbrev pub new_name : BlockName → ℕ → Option Cut → Result (Unit {0}) FileFault
new_name b n None = Ok tt
new_name b n (Some earlier) = Err (fault.Twice b earlier.line n)

-- a head that may stand at line n, below some sections and above some lines: a block that is new, or a data block with
-- nothing below it
abbrev pub allowed : List Cut → ℕ → List (List ℕ) → Head → Result (Unit {0}) FileFault
allowed cs n ls (Block b) = new_name b n (section_named b cs)
allowed cs n ls (Data m k) = no_stray (n + 1) ls

-- the section of a head line l of number n, below some sections; `below` is what stands behind the line
unfoldable pub section_of : List Cut → ℕ → List ℕ → List ℕ → Result Cut FileFault
section_of cs n l below =
    and_then (map_err (fault.Head n) (head_of l)) (λ h.
    and_then (allowed cs n (lines_of below) h) (λ _.
    Ok (record { head = h; line = n; text = take (body_size (lines_of below)) below })))

-- the sections that some lines add, the first of them of number n; `text` is what the lines are cut from
unfoldable pub sections_from : List Cut → ℕ → List (List ℕ) → List ℕ → Result (List Cut) FileFault
sections_from cs n [] text = Ok cs
sections_from cs n (l ∷ ls) text =
    let below = drop (length l + 1) text in
    cond (is_head l)
    (and_then (section_of cs n l below) (λ c. sections_from (cs ++ c ∷ []) (n + 1) ls below))
    (sections_from cs (n + 1) ls below)

-- the sections of a file: nothing but blank lines stands before the first head
unfoldable pub sections_of : List ℕ → Result (List Cut) FileFault
sections_of file = and_then (no_stray 1 (lines_of file)) (λ _. sections_from [] 1 (lines_of file) file)

-- a cutting gives the sections or the fault of the definition, as long as there is memory
abbrev pub Agrees : Result (Vec Section Global) Uncut → Result (List Cut) FileFault → Type 0
Agrees (Ok parts) d = Ok (map seen_section (vec_items parts)) ≡ d
Agrees (Err (Fault f)) d = Err f ≡ d
Agrees (Err Memory) d = Unit {0}
